use Rattle.std.proofs.Common.{◌≡◌}
use Rattle.msrp_plan.proofs.Common.{List, ℕ, Some}
use Rattle.msrp_text.specs.Records.{records_left}
use Rattle.msrp_event_text.specs.StateTexts.{state_described}
use Rattle.msrp_event_text.proofs.states.assume_all.Given as goal

-- the state of the records that are left, from the auditor's on, is that of all
abbrev pub invariant-loop-number : goal.invariant-loop-number
invariant-loop-number g l =
    (l.auditor.system ≡ l.fn.auditor.system) × (l.auditor.tolerances ≡ l.fn.auditor.tolerances) × (l.auditor.finding ≡ l.fn.auditor.finding)
    × ((all : List (List (List ℕ))) → records_left g.R.Read.remaining l.fn.records ≡ Some all
    → (left : List (List (List ℕ))) × (records_left g.R.Read.remaining l.records ≡ Some left) × (state_described l.fn.auditor.system l.auditor.state left ≡ state_described l.fn.auditor.system l.fn.auditor.state all))
