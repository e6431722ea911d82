use Rattle.std.proofs.Common.{◌≡◌, ◌++◌, ◌∷◌, ◌+◌, ◌∙◌}
use Rattle.msrp_plan.proofs.Common.{rules, [], List, Ok, Err, length, length-append, arith, ap, subst, sym}
use Rattle.msrp_plan.specs.declared.rows.Row.{Row}
use Rattle.msrp_engine.specs.Judging.{row_told, rows_left}
use Rattle.msrp_engine.specs.Inside.Gathered.{IsGathered}
use Rattle.msrp_faults.specs.Outcomes.{trace_fault_of}
use Rattle.msrp_faults.specs.declared.faults.CliFault.TheVariants.{Memory}
use Rattle.msrp_engine.proofs.Gathering.{gathered-all, gathered-full, gathered-refused, gathered-unkept}
use Rattle.msrp_trace.proofs.ReadThrough.{IsReadTo, none-read, read-row}
use Rattle.msrp_engine.proofs.audit_parallel.gather_rows.Goals as goal

pub loop-row-init : goal.loop-row-init
loop-row-init g c = record {
  count = ap length c.requires;
  read = λ told known. subst (λ (l : List Row). IsReadTo told l (rows_left g.T.Read.remaining c.args.rows.now)) (sym c.requires) (none-read told _ known);
}

pub loop-row-preserved : goal.loop-row-preserved
loop-row-preserved g c =
    let i = c.loop-row.invariant in
    let rows = c.loop-row.gathered in
    let row = c.in-Some.row in
    let pushed : c.push.new.self ≡ rows ++ row ∷ [] = search rules in
    record {
      count = ap length pushed ∙ (length-append rows (row ∷ []) ∙ ap (λ n. n + 1) i.count);
      read = λ told known. subst (λ (l : List Row). IsReadTo told l (rows_left g.T.Read.remaining c.next_row.new.self)) (sym pushed)
          (read-row told rows _ _ (row_told c.next_row.result) row (i.read told known) c.next_row.ensures.gives (ap row_told c.in_ok-next_row.was ∙ (c.row.ensures ∙ ap (λ x. Ok x) c.in-Some.is)));
    }

pub returns-in_err-next_row-clause-gathered : goal.returns-in_err-next_row-clause-gathered
returns-in_err-next_row-clause-gathered g c = λ told known.
    let rows = c.loop-row.gathered in
    let gives : c.from_residual.result ≡ Err (trace_fault_of c.in_err-next_row.field-0.0) = search rules in
    subst (IsGathered c.args.most told rows) (sym gives)
    (gathered-refused c.args.most told rows _ _ (row_told c.next_row.result) c.in_err-next_row.field-0.0 (c.loop-row.invariant.read told known) c.next_row.ensures.gives (ap row_told c.in_err-next_row.was))

pub returns-in-None-clause-gathered : goal.returns-in-None-clause-gathered
returns-in-None-clause-gathered g c = λ told known.
    gathered-all c.args.most told c.loop-row.gathered _ _ (row_told c.next_row.result) (c.loop-row.invariant.read told known) c.next_row.ensures.gives (ap row_told c.in_ok-next_row.was ∙ (c.row.ensures ∙ ap (λ x. Ok x) c.in-None.is))

pub returns-clause-gathered : goal.returns-clause-gathered
returns-clause-gathered g c = λ told known.
    gathered-full c.args.most told c.loop-row.gathered _ (c.loop-row.invariant.read told known) (let past = c.loop-row-test.false in let count = c.loop-row.invariant.count in omega (arith, past, count))

pub returns-in_err-push-in-Some-clause-gathered : goal.returns-in_err-push-in-Some-clause-gathered
returns-in_err-push-in-Some-clause-gathered g c = λ told known.
    let rows = c.loop-row.gathered in
    let gives : c.from_residual-in_err-push-in-Some.result ≡ Err Memory = search rules in
    let kept : c.push.new.self ≡ rows = search rules in
    subst (λ (l : List Row). IsGathered c.args.most told l c.from_residual-in_err-push-in-Some.result) (sym kept)
    (subst (IsGathered c.args.most told rows) (sym gives) (gathered-unkept c.args.most told rows _ (c.loop-row.invariant.read told known)))
