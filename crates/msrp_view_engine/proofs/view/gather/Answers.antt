use Rattle.std.proofs.Common.{◌≡◌}
use Rattle.msrp_plan.proofs.Common.{rules, Err, ap}
use Rattle.msrp_view_engine.proofs.Common.{Told, csv_records, rows_of, trace_fault_of, unopened}
use Rattle.msrp_view_engine.proofs.ReadThrough.{error-read}
use Rattle.msrp_view_engine.proofs.view.gather.Goals as goal

pub returns-in_err-rows-clause-rows : goal.returns-in_err-rows-clause-rows
returns-in_err-rows-clause-rows g c = λ bytes known.
    let error = c.in_err-rows.field-0.0 in
    let told = rows_of c.args.plan.now (csv_records bytes) in
    let gives : c.from_residual.result ≡ Err (trace_fault_of error) = search rules in
    error-read told error c.from_residual.result _ (unopened g.T.Read.remaining c.args.plan.now (csv_records bytes) error (c.in_err-rows.ensures.opens bytes known)) (ap (λ (told : Told). told.refusal)) gives
