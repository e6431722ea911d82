use Rattle.std.proofs.Common.{◌≡◌, ◌∙◌}
use Rattle.msrp_plan.proofs.Common.{rules, Err, Ok, ap, inr, sym}
use Rattle.std.specs.Option.{option_map_or}
use Rattle.msrp_faults.specs.declared.faults.CliFault.TheVariants.{Usage}
use Rattle.msrp_view_engine.proofs.Common.{csv_records, found_in, rows_of, rows_read, verdict_on}
use Rattle.msrp_view_engine.proofs.Answering.{err-unread, ok-unread}
use Rattle.msrp_view_engine.proofs.view.picture_of.Goals as goal

pub returns-in_default-clause-found : goal.returns-in_default-clause-found
returns-in_default-clause-found g c = λ bytes known. inr (inr (ap (λ o. option_map_or (λ _. verdict_on c.args.plan.now (rows_read (rows_of c.args.plan.now (csv_records bytes)))) o (Err Usage)) (sym c.in_default.is ∙ c.window_of.ensures)))

pub returns-in_err-trace-clause-found : goal.returns-in_err-trace-clause-found
returns-in_err-trace-clause-found g c = λ bytes known.
    let gives : c.from_residual.result ≡ Err c.in_err-trace.field-0.0 = search rules in
    let window = ap (λ o. option_map_or (λ _. verdict_on c.args.plan.now (rows_read (rows_of c.args.plan.now (csv_records bytes)))) o (Err Usage)) (sym c.in-Some.is ∙ c.window_of.ensures) in
    err-unread _ _ _ _ (c.in_err-trace.ensures.rows bytes known) gives (λ rows. ap found_in gives ∙ (ap (verdict_on c.args.plan.now) rows ∙ window))

pub returns-clause-found : goal.returns-clause-found
returns-clause-found g c = λ bytes known.
    let window = ap (λ o. option_map_or (λ _. verdict_on c.args.plan.now (rows_read (rows_of c.args.plan.now (csv_records bytes)))) o (Err Usage)) (sym c.in-Some.is ∙ c.window_of.ensures) in
    let audited : Ok c.in_ok-found.found ≡ verdict_on c.args.plan.now (Ok c.in_ok-trace.field-0.trace.rows.items) = search rules in
    ok-unread _ _ _ _ (c.in_ok-trace.ensures.rows bytes known) (λ rows. audited ∙ (ap (verdict_on c.args.plan.now) rows ∙ window))
