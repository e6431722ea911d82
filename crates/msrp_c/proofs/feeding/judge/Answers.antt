use Rattle.std.proofs.Common.{◌≡◌, ◌<◌, ◌*◌, ◌/◌, ◌++◌, ◌∷◌, ◌∙◌}
use Rattle.msrp_plan.proofs.Common.{[], true, false, length, ap, sym, subst, true≢false, PlanModel, fault_in}
use Rattle.msrp_sim.specs.Cores.{IsNextRow}
use Rattle.msrp_audit.specs.Audits.{AuditorModel, IsOutOfTurn}
use Rattle.msrp_engine.proofs.Judging.{fault-answer, good-answer}
use Rattle.msrp_c.proofs.feeding.judge.Goals as goal

pub returns-then-not-is_in_turn-clause-broken : goal.returns-then-not-is_in_turn-clause-broken
returns-then-not-is_in_turn-clause-broken c = λ rows fed none.
    let not : c.is_in_turn.result ≡ false = cc in
    let out : IsOutOfTurn c.args.auditor.now.plan rows c.args.row = λ left. sym (c.is_in_turn.ensures.turn rows fed none left) ∙ not in
    record {
      fault = c.fault_out_of_turn.ensures rows c.args.row fed none out;
      turn = λ left turn. absurd (true≢false (sym turn ∙ out left));
      out = λ _. (fed, none);
    }

pub returns-then-is_as-clause-good : goal.returns-then-is_as-clause-good
returns-then-is_as-clause-good c = λ rows fed none.
    let is : c.is_in_turn.result ≡ true = cc in
    let turn = c.turn-due.ensures in
    let awaits = turn.awaits rows fed in
    let tick = c.is_in_turn.ensures.tick is rows fed ∙ (ap (λ (p : PlanModel). length rows / p.cores) (sym turn.plan) ∙ sym awaits.tick) in
    let accepted = c.accept.ensures in
    let more = accepted.fed rows c.args.row.core.0 c.turn-due.result c.args.row awaits tick (c.is_as.ensures c.if-is_as.true (sym turn.core)) in
    let plan = ap (λ (a : AuditorModel). a.plan) accepted.same ∙ turn.plan in
    let fault = ap (λ (a : AuditorModel). a.fault) accepted.same ∙ (turn.fault ∙ none) in
    (more, ap (λ (p : PlanModel). fault_in p (rows ++ c.args.row ∷ [])) (sym plan) ∙ (sym more.fault ∙ fault))

pub returns-in-Ok-clause-good : goal.returns-in-Ok-clause-good
returns-in-Ok-clause-good c = λ rows fed none.
    let is : c.is_in_turn.result ≡ true = cc in
    let turn = c.turn-due.ensures in
    let awaits = turn.awaits rows fed in
    let tick = c.is_in_turn.ensures.tick is rows fed ∙ (ap (λ (p : PlanModel). length rows / p.cores) (sym turn.plan) ∙ sym awaits.tick) in
    let good = c.in-Ok.ensures in
    (good.fed rows awaits tick, ap (λ (p : PlanModel). fault_in p (rows ++ c.args.row ∷ [])) (sym turn.plan) ∙ good-answer (fault_in c.turn-due.new.self.plan (rows ++ c.args.row ∷ [])) c.in-Ok.field-0 (good.answer rows awaits tick))

pub returns-in-Err-clause-broken : goal.returns-in-Err-clause-broken
returns-in-Err-clause-broken c = λ rows fed none.
    let is : c.is_in_turn.result ≡ true = cc in
    let turn = c.turn-due.ensures in
    let awaits = turn.awaits rows fed in
    let tick = c.is_in_turn.ensures.tick is rows fed ∙ (ap (λ (p : PlanModel). length rows / p.cores) (sym turn.plan) ∙ sym awaits.tick) in
    let plan = c.args.auditor.now.plan in
    let left : length rows < plan.cores * plan.ticks = subst (λ n. n < plan.cores * plan.ticks) (fed.count none) (c.is_in_turn.ensures.due is).left in
    record {
      fault = ap (λ (p : PlanModel). fault_in p (rows ++ c.args.row ∷ [])) (sym turn.plan) ∙ fault-answer (fault_in c.turn-due.new.self.plan (rows ++ c.args.row ∷ [])) c.in-Err.fault (c.in-Err.ensures.answer rows awaits tick);
      turn = λ _ _. subst (λ p. IsNextRow p rows c.args.row.core.0 c.turn-due.result) turn.plan awaits.next;
      out = λ o. absurd (true≢false (sym is ∙ (c.is_in_turn.ensures.turn rows fed none left ∙ o left)));
    }
