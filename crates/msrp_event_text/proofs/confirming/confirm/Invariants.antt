use Rattle.std.proofs.Common.{◌≡◌, ◌+◌}
use Rattle.msrp_plan.proofs.Common.{List, ℕ, Some}
use Rattle.msrp_text.specs.Records.{records_left}
use Rattle.msrp_event_text.specs.LogVerdicts.{confirmed_from}
use Rattle.msrp_event_text.proofs.confirming.confirm.Given as goal

-- the verdict on the records that are left is that on all
abbrev pub invariant-loop-at : goal.invariant-loop-at
invariant-loop-at g l =
    (all : List (List (List ℕ))) → records_left g.R.Read.remaining l.fn.records ≡ Some all
    → (left : List (List (List ℕ))) × (records_left g.R.Read.remaining l.records ≡ Some left) × (confirmed_from l.system l.rule l.number l.at l.awaited.items left ≡ confirmed_from l.system l.rule l.number (l.number + 1) l.fn.awaited.items all)
