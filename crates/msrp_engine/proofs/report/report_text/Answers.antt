use Rattle.std.proofs.Common.{◌≡◌}
use Rattle.msrp_plan.proofs.Common.{rules, Ok, Err, refl}
use Rattle.msrp_engine.proofs.Reporting.{report-answers}
use Rattle.msrp_engine.proofs.report.report_text.Goals as goal

pub returns-in_err-made-clause-answer : goal.returns-in_err-made-clause-answer
returns-in_err-made-clause-answer g c = λ plan_bytes trace_bytes plan trace.
    let gives : c.from_residual.result ≡ Err c.in_err-made.field-0.0 = search rules in
    report-answers g.W.Write.contents _ _ (Err c.in_err-made.field-0.0) _ _ _ (c.in_err-made.ensures.found plan_bytes trace_bytes plan trace) (gives, refl)

pub returns-clause-answer : goal.returns-clause-answer
returns-clause-answer g c = λ plan_bytes trace_bytes plan trace.
    report-answers g.W.Write.contents _ _ (Ok c.in_ok-made.made) _ _ _ (c.in_ok-made.ensures.found plan_bytes trace_bytes plan trace) (rw c.as_slice.ensures.value at c.write_shown.ensures.answer)
