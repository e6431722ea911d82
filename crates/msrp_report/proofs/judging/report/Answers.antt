use Rattle.std.proofs.Common.{◌≡◌, ◌∙◌}
use Rattle.msrp_plan.proofs.Common.{Ok, Err, ap, sym, subst, IsRun, verdict, good_is_run}
use Rattle.msrp_audit.specs.Audits.{answer_of}
use Rattle.msrp_report.proofs.Common.{HasCounted, lines_of}
use Rattle.msrp_audit.proofs.Judging.{fault_told, good_told}
use Rattle.msrp_report.proofs.judging.report.Goals as goal

pub count_all-requires-clause-run : goal.count_all-requires-clause-run
count_all-requires-clause-run c =
    let plan = c.args.plan.now in
    let rows = c.args.trace.now.rows.items in
    let good : Ok c.in_default.field-0 ≡ answer_of (verdict plan rows) = sym c.in_default.is ∙ c.in_ok-fault.ensures in
    subst (λ p. IsRun p c.as_slice.result.now) (sym c.in_ok-counter.ensures.plan) (subst (IsRun plan) (sym c.as_slice.ensures.value) (good_is_run plan rows (good_told _ c.in_default.field-0 good)))

pub returns-in-Err-clause-fault : goal.returns-in-Err-clause-fault
returns-in-Err-clause-fault c = λ fault e.
    let same : c.in-Err.fault ≡ fault = cc in
    fault_told (verdict c.args.plan.now c.args.trace.now.rows.items) fault (ap (λ f. Err f) (sym same) ∙ (sym c.in-Err.is ∙ c.in_ok-fault.ensures))

pub returns-clause-lines : goal.returns-clause-lines
returns-clause-lines c =
    let rows = c.args.trace.now.rows.items in
    let counted : HasCounted c.count_all.new.counter rows = subst (HasCounted c.count_all.new.counter) c.as_slice.ensures.value c.count_all.ensures.counted in
    c.end.ensures.lines rows counted ∙ ap (λ p. lines_of p rows) (ap (λ p. p.now) c.count_all.ensures.plan ∙ c.in_ok-counter.ensures.plan)

pub returns-clause-run : goal.returns-clause-run
returns-clause-run c =
    let plan = c.args.plan.now in
    let rows = c.args.trace.now.rows.items in
    let good : Ok c.in_default.field-0 ≡ answer_of (verdict plan rows) = sym c.in_default.is ∙ c.in_ok-fault.ensures in
    good_is_run plan rows (good_told _ c.in_default.field-0 good)
