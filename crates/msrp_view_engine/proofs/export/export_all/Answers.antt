use Rattle.std.proofs.Common.{◌≡◌}
use Rattle.msrp_plan.proofs.Common.{rules, Some, Err, sym, subst}
use Rattle.msrp_view_engine.proofs.Common.{csv_records, opened, rows_of, told_left, trace_fault_of, unopened-found}
use Rattle.msrp_view_engine.proofs.export.export_all.Goals as goal

pub returns-in_err-reader-clause-found : goal.returns-in_err-reader-clause-found
returns-in_err-reader-clause-found g c = λ bytes known.
    let gives : c.from_residual-in_err-reader.result ≡ Err (trace_fault_of c.in_err-reader.field-0.0) = search rules in
    unopened-found g.T.Read.remaining c.args.plan.now (csv_records bytes) c.in_err-reader.field-0.0 _ (c.in_err-reader.ensures.opens bytes known) gives

pub returns-clause-found : goal.returns-clause-found
returns-clause-found g c = λ bytes known.
    let told = rows_of c.args.plan.now (csv_records bytes) in
    let begun = opened g.T.Read.remaining c.args.plan.now (csv_records bytes) c.in_ok-reader.reader (c.in_ok-reader.ensures.opens bytes known) in
    c.export_rows-found.ensures.found told (subst (λ r. told_left g.T.Read.remaining r ≡ Some told) (sym c.new-rows.ensures.rows) begun)
