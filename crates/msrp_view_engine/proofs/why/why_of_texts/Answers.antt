use Rattle.std.proofs.Common.{◌≡◌, ◌∙◌}
use Rattle.msrp_plan.proofs.Common.{rules, Ok, Err, IfOk, ap, subst, sym}
use Rattle.msrp_view_engine.proofs.Common.{BeginsWith, found_in}
use Rattle.msrp_view_engine.proofs.Answering.{err-unread, ok-unread}
use Rattle.msrp_view_engine.proofs.Explaining.{found-none, found-words}
use Rattle.msrp_view_engine.proofs.why.why_of_texts.Goals as goal

pub returns-in_err-words-clause-why : goal.returns-in_err-words-clause-why
returns-in_err-words-clause-why g c = λ plan_bytes trace_bytes plan trace.
    let gives : c.from_residual.result ≡ Err c.in_err-words.field-0.0 = search rules in
    err-unread _ _ _ _ (c.in_err-words.ensures.explained plan_bytes trace_bytes plan trace) gives
    (λ is. (ap found_in gives ∙ found-none _ _ _ is, subst (λ made. IfOk made (λ words. BeginsWith (Ok words.found) words.text.items)) (sym gives) tt))

pub returns-in-Ok-clause-why : goal.returns-in-Ok-clause-why
returns-in-Ok-clause-why g c = λ plan_bytes trace_bytes plan trace.
    ok-unread _ _ _ _ (c.in_ok-words.ensures.explained plan_bytes trace_bytes plan trace)
    (λ is. (sym c.in-Ok.is ∙ found-words _ _ _ is, subst (λ found. BeginsWith found c.in_ok-words.words.text.items) c.in-Ok.is c.in_ok-words.ensures.words.begins))

pub returns-in-Err-clause-why : goal.returns-in-Err-clause-why
returns-in-Err-clause-why g c = λ plan_bytes trace_bytes plan trace.
    ok-unread _ _ _ _ (c.in_ok-words.ensures.explained plan_bytes trace_bytes plan trace) (λ is. (sym c.in-Err.is ∙ found-words _ _ _ is, tt))
