-- What decides the verdict on a log, and the state before it.
use Rattle.std.specs.Prelude.{◌≡◌, ◌+◌, ◌++◌, ◌∷◌}
use Rattle.msrp_plan.specs.Common.{ℕ, List, length, map, Option, Some, None, Result, Ok, Err, PlanModel}
use Rattle.msrp_events.specs.Changes.{LogState, first_state, state_from}
use Rattle.msrp_events.specs.Findings.{finding_in, finding_of}
use Rattle.msrp_events.specs.declared.events.Event.{Event}
use Rattle.msrp_events.specs.declared.findings.Finding.{Finding}
use Rattle.msrp_events.specs.declared.states.Tolerances.{Tolerances}
use Rattle.msrp_event_text.specs.LogEvents.{event_of}
use Rattle.msrp_event_text.specs.declared.verdicts.Judged.{Judged}
use Rattle.msrp_event_text.specs.declared.verdicts.LogError.{LogError}
use Rattle.msrp_event_text.specs.declared.verdicts.LogVerdict.{LogVerdict}
use Rattle.msrp_event_text.specs.declared.verdicts.LogVerdict.TheVariants.{Good}
use Rattle.msrp_event_text.specs.declared.verdicts.Shown.{Shown}

-- the verdict without the record that decided it
abbrev pub verdict_in : Result Judged LogError → Result LogVerdict LogError
verdict_in (Ok judged) = Ok judged.verdict
verdict_in (Err error) = Err error

-- the finding of this record
abbrev pub shown_at : Finding → ℕ → Event → Shown
shown_at finding number event = record { finding = finding; event = event; number = number }

-- of the records after the first one, those before the record with these fields are events that,
-- after those of the start, show nothing and lead to this state, in which the record's event has the
-- finding
pub record IsFirstShown (system : PlanModel) (tolerances : Tolerances) (start : List Event) (records : List (List (List ℕ))) (fields : List (List ℕ)) (s : LogState) (shown : Shown) : Type 0 where
  pub before : List (List (List ℕ))
  pub after : List (List (List ℕ))
  pub events : List Event
  pub all : records ≡ before ++ fields ∷ after
  pub number : shown.number ≡ length before + 2
  pub are : map (event_of system) before ≡ map (λ e. Some e) events
  pub event : event_of system fields ≡ Some shown.event
  pub nothing : finding_in system tolerances (start ++ events) ≡ None
  pub state : s ≡ state_from system (first_state system) (start ++ events)
  pub finding : finding_of system tolerances s shown.event ≡ Some shown.finding

-- such a record decides the verdict, and without one the log is good
abbrev pub IsDecided : PlanModel → Tolerances → List Event → List (List (List ℕ)) → List (List ℕ) → LogState → LogVerdict → Option Shown → Type 0
IsDecided system tolerances start records fields s verdict None = verdict ≡ Good
IsDecided system tolerances start records fields s verdict (Some shown) = IsFirstShown system tolerances start records fields s shown

-- what was judged is decided so
abbrev pub IsDecidedBy : PlanModel → Tolerances → List Event → List (List (List ℕ)) → List (List ℕ) → LogState → Judged → Type 0
IsDecidedBy system tolerances start records fields s judged = IsDecided system tolerances start records fields s judged.verdict judged.shown
