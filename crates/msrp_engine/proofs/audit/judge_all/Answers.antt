use Rattle.std.proofs.Common.{◌≡◌, ◌∙◌}
use Rattle.msrp_plan.proofs.Common.{rules, Err, Some, ap, sym, subst, PlanModel}
use Rattle.msrp_audit.specs.Audits.{AuditorModel}
use Rattle.msrp_text.specs.Reading.{csv_records}
use Rattle.msrp_trace.specs.Reading.{rows_of}
use Rattle.msrp_trace.specs.Readers.{told_left}
use Rattle.msrp_faults.specs.Outcomes.{trace_fault_of}
use Rattle.msrp_trace.proofs.ReadThrough.{opened}
use Rattle.msrp_engine.proofs.Judging.{IsFound, unopened-found}
use Rattle.msrp_engine.proofs.audit.judge_all.Goals as goal

pub returns-in_err-reader-clause-found : goal.returns-in_err-reader-clause-found
returns-in_err-reader-clause-found g c = λ bytes known.
    let gives : c.from_residual-in_err-reader.result ≡ Err (trace_fault_of c.in_err-reader.field-0.0) = search rules in
    unopened-found g.T.Read.remaining c.args.plan.now (csv_records bytes) c.in_err-reader.field-0.0 c.from_residual-in_err-reader.result (c.in_err-reader.ensures.opens bytes known) gives

pub returns-clause-found : goal.returns-clause-found
returns-clause-found g c = λ bytes known.
    let told = rows_of c.args.plan.now (csv_records bytes) in
    let begun = opened g.T.Read.remaining c.args.plan.now (csv_records bytes) c.in_ok-reader.reader (c.in_ok-reader.ensures.opens bytes known) in
    let found = c.judge_rows-found.ensures.found told (subst (λ r. told_left g.T.Read.remaining r ≡ Some told) (sym c.new-rows.ensures.rows) begun) in
    subst (λ (p : PlanModel). IsFound p told c.judge_rows-found.result) (ap (λ (a : AuditorModel). a.plan) c.new-rows.ensures.auditor ∙ c.in_ok-auditor.ensures.plan) found
