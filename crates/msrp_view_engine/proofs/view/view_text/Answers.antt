use Rattle.std.proofs.Common.{◌≡◌, ◌∙◌}
use Rattle.msrp_plan.proofs.Common.{rules, Err, ap, refl, subst}
use Rattle.msrp_view_engine.proofs.Common.{WritesDrawing, answered}
use Rattle.msrp_view_engine.proofs.Answering.{err-unread, ok-unread}
use Rattle.msrp_view_engine.proofs.view.view_text.Goals as goal

pub returns-in_err-made-clause-answer : goal.returns-in_err-made-clause-answer
returns-in_err-made-clause-answer g c = λ plan_bytes trace_bytes plan trace.
    let gives : c.from_residual.result ≡ Err c.in_err-made.field-0.0 = search rules in
    err-unread _ _ _ _ (c.in_err-made.ensures.found plan_bytes trace_bytes plan trace) gives (λ is. subst (λ found. WritesDrawing found c.args.out.now c.args.out.now c.from_residual.result) is (gives, refl))

pub returns-clause-answer : goal.returns-clause-answer
returns-clause-answer g c = λ plan_bytes trace_bytes plan trace.
    let status = c.write_answer.ensures.answer ∙ ap (λ a. answered a c.write_answer.new.out) c.answer_to.ensures in
    ok-unread _ _ _ _ (c.in_ok-made.ensures.found plan_bytes trace_bytes plan trace) (λ is. subst (λ found. WritesDrawing found c.args.out.now c.write_answer.new.out c.write_answer.result) is status)
