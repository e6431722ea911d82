use Rattle.std.proofs.Common.{◌≡◌, ◌*◌, ◌+◌}
use Rattle.msrp_plan.proofs.Common.{rules, Some, Err, subst, sym}
use Rattle.msrp_text.specs.Reading.{csv_records}
use Rattle.msrp_trace.specs.Reading.{rows_of}
use Rattle.msrp_trace.specs.Readers.{told_left}
use Rattle.msrp_engine.specs.Inside.Gathered.{IsGathered}
use Rattle.msrp_faults.specs.Outcomes.{trace_fault_of}
use Rattle.msrp_trace.proofs.ReadThrough.{opened}
use Rattle.msrp_engine.proofs.Judging.{IsFound, unopened-found}
use Rattle.msrp_engine.proofs.Gathering.{found-gathered}
use Rattle.msrp_engine.proofs.audit_parallel.judge_all.Goals as goal

pub returns-in_err-reader-clause-found : goal.returns-in_err-reader-clause-found
returns-in_err-reader-clause-found g c = λ bytes known.
    let gives : c.from_residual-in_err-reader.result ≡ Err (trace_fault_of c.in_err-reader.field-0.0) = search rules in
    unopened-found g.T.Read.remaining c.args.plan.now (csv_records bytes) c.in_err-reader.field-0.0 c.from_residual-in_err-reader.result (c.in_err-reader.ensures.opens bytes known) gives

pub returns-clause-found : goal.returns-clause-found
returns-clause-found g c = λ bytes known.
    let told = rows_of c.args.plan.now (csv_records bytes) in
    let begun = opened g.T.Read.remaining c.args.plan.now (csv_records bytes) c.in_ok-reader.reader (c.in_ok-reader.ensures.opens bytes known) in
    let rows = c.gather_rows-ended.new.gathered in
    let ended = c.gather_rows-ended.result in
    let cores = subst (λ n. IsGathered (n * c.ticks.result + 1) told rows ended) c.cores.ensures.value (c.gather_rows-ended.ensures.gathered told (subst (λ r. told_left g.T.Read.remaining r ≡ Some told) (sym c.new-rows.ensures.rows) begun)) in
    let gathered = subst (λ n. IsGathered (c.args.plan.now.cores * n + 1) told rows ended) c.ticks.ensures.value cores in
    subst (IsFound c.args.plan.now told) (sym c.found_in.ensures.found) (found-gathered c.args.plan.now told rows _ ended gathered c.in_ok-judged.ensures)
