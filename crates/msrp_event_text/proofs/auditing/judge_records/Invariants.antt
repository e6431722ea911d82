use Rattle.std.proofs.Common.{◌≡◌, ◌+◌, ◌++◌}
use Rattle.msrp_plan.proofs.Common.{List, ℕ, Some, None, length, map}
use Rattle.msrp_text.specs.Records.{records_left}
use Rattle.msrp_events.specs.declared.events.Event.{Event}
use Rattle.msrp_event_audit.specs.Auditors.{HasFed}
use Rattle.msrp_event_text.specs.LogEvents.{event_of}
use Rattle.msrp_event_text.specs.LogVerdicts.{verdict_from}
use Rattle.msrp_event_text.proofs.auditing.judge_records.Given as goal

-- after the events of a start these events were fed and show nothing; of all records those before
-- are theirs, and the verdict on those that are left is that on all
abbrev pub invariant-loop-number : goal.invariant-loop-number
invariant-loop-number g l =
    (l.auditor.system ≡ l.system) × (l.auditor.tolerances ≡ l.fn.auditor.tolerances) × (l.auditor.finding ≡ None)
    × ((start : List Event) (all : List (List (List ℕ))) → HasFed l.fn.auditor start → records_left g.R.Read.remaining l.fn.records ≡ Some all
    → (done : List Event) × (events : List Event) × HasFed l.auditor done × (done ≡ start ++ events)
    × (left : List (List (List ℕ))) × (records_left g.R.Read.remaining l.records ≡ Some left) × (verdict_from l.system l.fn.auditor.tolerances l.number done l.numbers.items left ≡ verdict_from l.system l.fn.auditor.tolerances 2 start l.fn.numbers.items all)
    × (before : List (List (List ℕ))) × (all ≡ before ++ left) × (l.number ≡ length before + 2) × (map (event_of l.system) before ≡ map (λ e. Some e) events))
