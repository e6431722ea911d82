use Rattle.msrp_plan.proofs.Common.{Ok, subst}
use Rattle.msrp_view_engine.proofs.Common.{IsJudged}
use Rattle.msrp_view_engine.proofs.Explaining.{judged-explained, refused-explained}
use Rattle.msrp_view_engine.proofs.why.explain_rows.Goals as goal

pub returns-in-Row-clause-explained : goal.returns-in-Row-clause-explained
returns-in-Row-clause-explained g c = λ told known.
    let judged = subst (IsJudged c.args.plan.now told) c.in-Ok.is (c.judge_rows.ensures.found told known) in
    let is = subst (λ j. IsJudged c.args.plan.now told (Ok j)) c.in-Row.is judged in
    judged-explained c.args.plan.now told _ c.words_with.result is.0 c.words_with.ensures.found c.words_with.ensures.memory

pub returns-clause-explained : goal.returns-clause-explained
returns-clause-explained g c = λ told known.
    let judged = subst (IsJudged c.args.plan.now told) c.in-Ok.is (c.judge_rows.ensures.found told known) in
    let is = subst (λ j. IsJudged c.args.plan.now told (Ok j)) c.in-End.is judged in
    judged-explained c.args.plan.now told _ c.words_with-in-End.result is.0 c.words_with-in-End.ensures.found c.words_with-in-End.ensures.memory

pub returns-in-Err-clause-explained : goal.returns-in-Err-clause-explained
returns-in-Err-clause-explained g c = λ told known.
    let judged = subst (IsJudged c.args.plan.now told) c.in-Err.is (c.judge_rows.ensures.found told known) in
    refused-explained c.args.plan.now told c.in-Err.error c.words_on_refusal.result judged c.words_on_refusal.ensures.found c.words_on_refusal.ensures.words c.words_on_refusal.ensures.fault
