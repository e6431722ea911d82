use Rattle.std.proofs.Common.{◌≡◌, ◌+◌}
use Rattle.msrp_plan.proofs.Common.{ℕ, List, Some, length}
use Rattle.msrp_text.specs.Reading.{plan_of}
use Rattle.msrp_text.specs.Records.{records_left}
use Rattle.msrp_text.proofs.Folding.{plan_from}
use Rattle.msrp_text.proofs.reading.read_positions.Given as goal

abbrev pub invariant-loop-number : goal.invariant-loop-number
invariant-loop-number g l =
    (all : List (List (List ℕ))) → records_left g.R.Read.remaining l.fn.records ≡ Some all
    → (left : List (List (List ℕ))) × (records_left g.R.Read.remaining l.records ≡ Some left) × (plan_from l.position l.number left ≡ plan_of all) × (l.number + length left ≡ length all + 1)
