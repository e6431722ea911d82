use Rattle.std.proofs.Common.{◌≡◌, ◌+◌, ◌-◌}
use Rattle.msrp_plan.proofs.Common.{ℕ, List, length}
use Rattle.msrp_text.specs.declared.front.TheConstants.{LONGEST}
use Rattle.msrp_text.specs.Lines.{HasRead}
use Rattle.msrp_text.specs.Records.{KeepsRecords, bytes_ahead, records_left, stop_of}
use Rattle.msrp_text.proofs.records.RecordReader.read_line_ahead.Given as goal

abbrev pub invariant-loop-self : goal.invariant-loop-self
invariant-loop-self g l = record {
  same : KeepsRecords (records_left g.R.Read.remaining l.fn.self) (records_left g.R.Read.remaining l.self);
  stop : stop_of l.self ≡ stop_of l.fn.self;
  still : (bytes : List ℕ) (number : ℕ) → HasRead g.R.Read.remaining bytes number l.fn.self → HasRead g.R.Read.remaining bytes number l.self;
}

abbrev pub decreases-loop-self : goal.decreases-loop-self
decreases-loop-self g l = LONGEST + 1 - length (bytes_ahead l.self)
