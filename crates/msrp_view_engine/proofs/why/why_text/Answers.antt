use Rattle.std.proofs.Common.{◌≡◌, ◌∙◌}
use Rattle.msrp_plan.proofs.Common.{rules, Err, ap, refl, subst, sym}
use Rattle.msrp_view_engine.proofs.Common.{BeginsWith, answered}
use Rattle.msrp_view_engine.proofs.Answering.{err-unread, ok-unread}
use Rattle.msrp_view_engine.proofs.Explaining.{unwritten, written}
use Rattle.msrp_view_engine.proofs.why.why_text.Goals as goal

pub returns-in_err-words-clause-answer : goal.returns-in_err-words-clause-answer
returns-in_err-words-clause-answer g c = λ plan_bytes trace_bytes plan trace.
    let gives : c.from_residual.result ≡ Err c.in_err-words.field-0.0 = search rules in
    err-unread _ _ _ _ (c.in_err-words.ensures.explained plan_bytes trace_bytes plan trace) gives (λ is. unwritten g.W.Write.contents _ _ _ _ _ _ is gives refl)

pub returns-clause-answer : goal.returns-clause-answer
returns-clause-answer g c = λ plan_bytes trace_bytes plan trace.
    let words = c.in_ok-words.words in
    let same : c.as_slice.result.now ≡ words.text.items = search rules in
    let begins = subst (BeginsWith words.found) (sym same) c.in_ok-words.ensures.words.begins in
    let status = c.write_answer.ensures.answer ∙ ap (λ a. answered a c.write_answer.new.out) c.answer_to.ensures in
    ok-unread _ _ _ _ (c.in_ok-words.ensures.explained plan_bytes trace_bytes plan trace)
    (λ is. written g.W.Write.contents _ _ words _ _ _ is (record { text = c.as_slice.result.now; begins = begins; wrote = c.write_answer.ensures.wrote; status = status }))
