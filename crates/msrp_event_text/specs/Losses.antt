-- Logs whose records are numbered, and logs of which some records are left out.
use Rattle.std.specs.Prelude.{◌≡◌, ◌<◌, ◌⊎◌, ◌+◌, ◌∷◌, ◌==◌}
use Rattle.msrp_plan.specs.Common.{ℕ, Bool, true, List, [], Some, count_by, filter_map, PlanModel}
use Rattle.msrp_events.specs.declared.events.Event.{Event}
use Rattle.msrp_event_text.specs.LogEvents.{event_of}
use Rattle.msrp_event_text.specs.LogVerdicts.{is_boot}

-- some of the elements, in their order
abbrev pub AreSome : {X : Type 0} → List X → List X → Type 0
AreSome some [] = some ≡ []
AreSome some (x ∷ xs) = AreSome some xs ⊎ ((rest : List _) × (some ≡ x ∷ rest) × AreSome rest xs)

-- the events of the records
abbrev pub events_of : PlanModel → List (List (List ℕ)) → List Event
events_of system records = filter_map (event_of system) records

-- the event is in the log of this core
abbrev pub is_from : ℕ → Event → Bool
is_from c e = e.core.0 == c

-- after these events: the event has the next number of its core, by that of the core's first
-- record, which alone begins the core's log
pub record IsNumbered (system : PlanModel) (first : ℕ → ℕ) (before : List Event) (e : Event) : Type 0 where
  pub core : e.core.0 < system.cores
  pub number : e.number ≡ Some (first e.core.0 + count_by (is_from e.core.0) before)
  pub boot : is_boot e.action ≡ true → count_by (is_from e.core.0) before ≡ 0
