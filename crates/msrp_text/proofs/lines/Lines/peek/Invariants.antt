use Rattle.std.proofs.Common.{◌-◌}
use Rattle.msrp_plan.proofs.Common.{ℕ, List}
use Rattle.msrp_text.specs.Ahead.{buffered, lines_ahead}
use Rattle.msrp_text.specs.Lines.{HasTaken}
use Rattle.msrp_text.specs.Plain.{NoLine}
use Rattle.msrp_text.specs.declared.front.TheConstants.{LONGEST}
use Rattle.msrp_text.specs.declared.lines.TheConstants.{ROOM}
use Rattle.msrp_text.specs.Records.{KeepsRecords, records_ahead}
use Rattle.msrp_text.proofs.lines.Lines.peek.Given as goal

abbrev pub invariant-loop-line : goal.invariant-loop-line
invariant-loop-line g l = record {
  same : KeepsRecords (records_ahead g.R.Read.remaining l.fn.self) (records_ahead g.R.Read.remaining l.self);
  none : NoLine LONGEST (lines_ahead l.self) → NoLine LONGEST (lines_ahead l.fn.self);
  taken : (bytes : List ℕ) (number : ℕ) → HasTaken g.R.Read.remaining bytes number l.fn.self → HasTaken g.R.Read.remaining bytes number l.self;
}

abbrev pub decreases-loop-line : goal.decreases-loop-line
decreases-loop-line g l = ROOM - buffered l.self
