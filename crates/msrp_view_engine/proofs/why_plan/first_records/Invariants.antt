use Rattle.std.proofs.Common.{◌≡◌, ◌≤◌}
use Rattle.msrp_plan.proofs.Common.{Some, drop, map, take}
use Rattle.msrp_view_engine.proofs.Common.{csv_records, fields_of}
use Rattle.msrp_text.specs.Records.{records_left}
use Rattle.msrp_view_engine.proofs.why_plan.first_records.Given as goal

abbrev pub invariant-loop-record : goal.invariant-loop-record
invariant-loop-record l = record {
  within : l._record ≤ l.most;
  left : records_left (λ s. Some s.now) l.reader ≡ Some (drop l._record (csv_records l.bytes));
  read : map fields_of l.records.items ≡ take l._record (csv_records l.bytes);
}
