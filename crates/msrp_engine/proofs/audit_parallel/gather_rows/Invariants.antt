use Rattle.std.proofs.Common.{◌≡◌}
use Rattle.msrp_plan.proofs.Common.{Some, length}
use Rattle.msrp_trace.specs.Reading.{Told}
use Rattle.msrp_engine.specs.Judging.{rows_left}
use Rattle.msrp_trace.proofs.ReadThrough.{IsReadTo}
use Rattle.msrp_engine.proofs.audit_parallel.gather_rows.Given as goal

abbrev pub invariant-loop-row : goal.invariant-loop-row
invariant-loop-row g l = record {
  count : length l.gathered ≡ l._row;
  read : (told : Told) → rows_left g.T.Read.remaining l.fn.rows ≡ Some told → IsReadTo told l.gathered (rows_left g.T.Read.remaining l.rows);
}
