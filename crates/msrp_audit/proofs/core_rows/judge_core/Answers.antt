use Rattle.std.proofs.Common.{◌≡◌, ◌≢◌, ◌<◌, ◌++◌, ◌∷◌, ◌∙◌}
use Rattle.msrp_plan.proofs.Common.{[], true, length, take, ap, sym, subst, arith, eqb-true, eqb-false, length-take-le, is_of, log_of, IsRunStart, is_in_turn}
use Rattle.msrp_plan.specs.declared.rows.Row.{Row}
use Rattle.msrp_core.specs.Machine.{MachineModel, StandsAfter}
use Rattle.msrp_audit.specs.Inside.Pieces.{broken_on_core}
use Rattle.msrp_audit.proofs.Scanning.{passes_all, row_at}
use Rattle.msrp_audit.proofs.OwnRows.{ends_here, breaks_here, passes_here, stands_here, passes_by, stands_by}
use Rattle.msrp_audit.proofs.core_rows.judge_core.Goals as goal
use Rattle.msrp_audit.proofs.core_rows.judge_core.Goals.{then-is_of+else-not-is_in_turn+in_default, else-is_of}

pub is_in_turn-requires-clause-core : goal.is_in_turn-requires-clause-core
is_in_turn-requires-clause-core c =
    let x = c.row-row.result in
    let own : x.core.0 ≡ c.args.core.0 = eqb-true x.core.0 c.args.core.0 (ap (λ (r : Row). is_of c.args.core.0 r) (c.row-row.ensures x) ∙ (sym (c.is_of.ensures x) ∙ c.if-is_of.true)) in
    subst (λ n. n < c.args.plan.now.cores) (sym own) c.requires.core

pub follow-requires-clause-core : goal.follow-requires-clause-core
follow-requires-clause-core c =
    let x = c.row-row.result in
    let own : x.core.0 ≡ c.args.core.0 = eqb-true x.core.0 c.args.core.0 (ap (λ (r : Row). is_of c.args.core.0 r) (c.row-row.ensures x) ∙ (sym (c.is_of.ensures x) ∙ c.if-is_of.true)) in
    own ∙ sym c.loop-index.invariant.core

pub returns-then-not-is_in_turn : goal.returns-then-not-is_in_turn
returns-then-not-is_in_turn c =
    let rows = c.args.rows.now in
    let i = c.loop-index.index in
    let v = c.loop-index.invariant in
    let x = c.row-row.result in
    let at = c.row-row.ensures x in
    let test = c.loop-index-test.true in
    let all = c.len-index-end.ensures in
    let within : i < length rows = omega (arith, test, all) in
    let own : x.core.0 ≡ c.args.core.0 = eqb-true x.core.0 c.args.core.0 (ap (λ (r : Row). is_of c.args.core.0 r) at ∙ (sym (c.is_of.ensures x) ∙ c.if-is_of.true)) in
    let size = sym (length-take-le i rows (omega (arith, within))) in
    ends_here c.args.plan.now c.args.core rows i x within at v.passes own
    (λ start. sym c.if-not-is_in_turn.true ∙ c.is_in_turn.ensures.turn (take i rows) size start (subst (λ n. StandsAfter c.loop-index.machine (log_of n (take i rows))) (sym own) (v.stands start)))

pub returns-in-Some : goal.returns-in-Some
returns-in-Some c =
    let plan = c.args.plan.now in
    let rows = c.args.rows.now in
    let i = c.loop-index.index in
    let v = c.loop-index.invariant in
    let x = c.row-row.result in
    let at = c.row-row.ensures x in
    let test = c.loop-index-test.true in
    let all = c.len-index-end.ensures in
    let within : i < length rows = omega (arith, test, all) in
    let own : x.core.0 ≡ c.args.core.0 = eqb-true x.core.0 c.args.core.0 (ap (λ (r : Row). is_of c.args.core.0 r) at ∙ (sym (c.is_of.ensures x) ∙ c.if-is_of.true)) in
    let size = sym (length-take-le i rows (omega (arith, within))) in
    let stands : IsRunStart plan (take i rows) → StandsAfter c.loop-index.machine (log_of x.core.0 (take i rows)) = λ start. subst (λ n. StandsAfter c.loop-index.machine (log_of n (take i rows))) (sym own) (v.stands start) in
    let turn : IsRunStart plan (take i rows) → is_in_turn plan (take i rows) x ≡ true = λ start. sym (c.is_in_turn.ensures.turn (take i rows) size start (stands start)) ∙ c.if-not-is_in_turn.false in
    breaks_here plan c.args.core rows i x within at v.passes c.in-Some.rule own turn
    (λ start. sym (c.follow.ensures.rule c.is_in_turn.ensures.accepted (take i rows) start (stands start) (turn start)) ∙ c.in-Some.is)

pub loop-index-preserved : goal.loop-index-preserved
loop-index-preserved c =
    let plan = c.args.plan.now in
    let core = c.args.core in
    let rows = c.args.rows.now in
    let i = c.loop-index.index in
    let v = c.loop-index.invariant in
    let test = c.loop-index-test.true in
    let all = c.len-index-end.ensures in
    let within : i < length rows = omega (arith, test, all) in
    let size = sym (length-take-le i rows (omega (arith, within))) in
    elim c.if-is_of.branch [
      | then-is_of+else-not-is_in_turn+in_default w ↦
          let x = w.row-row.result in
          let at = w.row-row.ensures x in
          let own : x.core.0 ≡ core.0 = eqb-true x.core.0 core.0 (ap (λ (r : Row). is_of core.0 r) at ∙ (sym (c.is_of.ensures x) ∙ w.if-is_of.true)) in
          let stands : IsRunStart plan (take i rows) → StandsAfter c.loop-index.machine (log_of x.core.0 (take i rows)) = λ start. subst (λ n. StandsAfter c.loop-index.machine (log_of n (take i rows))) (sym own) (v.stands start) in
          let turn : IsRunStart plan (take i rows) → is_in_turn plan (take i rows) x ≡ true = λ start. sym (w.is_in_turn.ensures.turn (take i rows) size start (stands start)) ∙ w.if-not-is_in_turn.false in
          record {
            plan = ap (λ (m : MachineModel). m.plan) w.machine-is ∙ (w.follow.ensures.plan ∙ v.plan);
            core = ap (λ (m : MachineModel). m.core) w.machine-is ∙ (w.follow.ensures.core ∙ v.core);
            stands = stands_here plan core rows i x within at v.passes c.if-is_of.machine
                (λ start. subst (λ m. StandsAfter m (log_of core.0 (take i rows ++ x ∷ []))) (sym w.machine-is) (subst (λ n. StandsAfter w.follow.new.machine (log_of n (take i rows ++ x ∷ []))) own (w.follow.ensures.stands (take i rows) start (stands start) (turn start) w.in_default.is)));
            passes = passes_here plan core rows i x within at v.passes own turn (λ start. sym (w.follow.ensures.rule w.is_in_turn.ensures.accepted (take i rows) start (stands start) (turn start)) ∙ w.in_default.is);
          }
      | else-is_of w ↦
          let some = row_at rows i within in
          let x = some.0 in
          let at = some.1 in
          let other : x.core.0 ≢ core.0 = eqb-false x.core.0 core.0 (ap (λ (r : Row). is_of core.0 r) at ∙ (sym (c.is_of.ensures x) ∙ w.if-is_of.false)) in
          record {
            plan = ap (λ (m : MachineModel). m.plan) w.machine-is ∙ v.plan;
            core = ap (λ (m : MachineModel). m.core) w.machine-is ∙ v.core;
            stands = stands_by plan core rows i x within at v.passes c.if-is_of.machine other (λ start. subst (λ m. StandsAfter m (log_of core.0 (take i rows))) (sym w.machine-is) (v.stands start));
            passes = passes_by plan core rows i x within at v.passes other;
          }
    ]

pub returns : goal.returns
returns c =
    let past = c.loop-index-test.false in
    let all = c.len-index-end.ensures in
    passes_all c.args.plan.now (broken_on_core c.args.plan.now c.args.core.0) c.args.rows.now c.loop-index.index (omega (arith, past, all)) c.loop-index.invariant.passes
