use Rattle.std.proofs.Common.{◌≡◌, ◌∙◌}
use Rattle.msrp_plan.proofs.Common.{rules, Ok, Err, Some, ap}
use Rattle.msrp_view_engine.proofs.Common.{found_in, verdict_on}
use Rattle.msrp_view_engine.proofs.Answering.{err-unread, ok-unread}
use Rattle.msrp_view_engine.proofs.view.page_of.Goals as goal

pub returns-in_err-trace-clause-found : goal.returns-in_err-trace-clause-found
returns-in_err-trace-clause-found g c = λ bytes known.
    let here = c.new.ensures.remaining ∙ ap (λ xs. Some xs) (c.as_slice.ensures.value ∙ c.in_ok-bytes.ensures.bytes bytes known) in
    let gives : c.from_residual-in_err-trace.result ≡ Err c.in_err-trace.field-0.0 = search rules in
    err-unread _ _ _ _ (c.in_err-trace.ensures.rows bytes here) gives (λ rows. ap found_in gives ∙ ap (verdict_on c.args.plan.now) rows)

pub returns-clause-found : goal.returns-clause-found
returns-clause-found g c = λ bytes known.
    let here = c.new.ensures.remaining ∙ ap (λ xs. Some xs) (c.as_slice.ensures.value ∙ c.in_ok-bytes.ensures.bytes bytes known) in
    let audited : Ok c.in_ok-found.found ≡ verdict_on c.args.plan.now (Ok c.in_ok-trace.field-0.trace.rows.items) = search rules in
    ok-unread _ _ _ _ (c.in_ok-trace.ensures.rows bytes here) (λ rows. audited ∙ ap (verdict_on c.args.plan.now) rows)
