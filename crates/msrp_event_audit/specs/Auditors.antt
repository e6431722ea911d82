-- An auditor, and the events that it was fed.
use Rattle.std.specs.Prelude.{◌≡◌, ◌≤◌}
use Rattle.msrp_plan.specs.Common.{List, Option, Some, None, Result, Ok, Err, vec_capacity, ⊤, PlanModel}
use Rattle.msrp_events.specs.Changes.{LogState, first_state, state_from}
use Rattle.msrp_events.specs.Findings.{finding_in}
use Rattle.msrp_events.specs.declared.events.Event.{Event}
use Rattle.msrp_events.specs.declared.findings.Finding.{Finding}
use Rattle.msrp_events.specs.declared.states.Tolerances.{Tolerances}
use Rattle.msrp_system.specs.Inside.Views.{IsSystem}
use Rattle.msrp_event_audit.specs.States.{state_of, Fits}
use Rattle.msrp_event_audit.specs.declared.auditor.LogAuditor.TheInside.{Inside}

-- the state after the events that show nothing, and what the next one shows, if it came
pub record AuditorModel : Type 0 where
  pub system : PlanModel
  pub tolerances : Tolerances
  pub state : LogState
  pub finding : Option Finding

-- these events were fed: the finding is theirs, and while there is none so is the state
pub record HasFed (a : AuditorModel) (events : List Event) : Type 0 where
  pub finding : a.finding ≡ finding_in a.system a.tolerances events
  pub state : a.finding ≡ None → a.state ≡ state_from a.system (first_state a.system) events

-- a finding as an answer: none is good
abbrev pub answer_of : Option Finding → Result ⊤ Finding
answer_of None = Ok tt
answer_of (Some finding) = Err finding

-- what a clause sees of an auditor
abbrev pub auditor_view : Inside → AuditorModel
auditor_view a = record { system = a.system.now; tolerances = a.tolerances; state = state_of a.state; finding = a.finding }

-- what the fields of an auditor hold
pub record IsAuditorView (a : Inside) : Type 0 where
  pub system : IsSystem a.system.now
  pub fits : Fits a.system.now (state_of a.state)
  pub room : a.tolerances.backlog ≤ vec_capacity a.state.jobs
