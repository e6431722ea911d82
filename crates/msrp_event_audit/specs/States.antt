-- The state of the definitions, as an auditor stores it.
use Rattle.std.specs.Prelude.{◌≡◌, ◌<◌, ◌+◌, ◌^◌}
use Rattle.msrp_plan.specs.Common.{ℕ, List, All, Some, length, slice_index_or, ⊤, PlanModel}
use Rattle.msrp_plan.specs.declared.ids.JobId.{JobId}
use Rattle.msrp_events.specs.LiveJobs.{place_of}
use Rattle.msrp_events.specs.Changes.{LogState, no_job}
use Rattle.msrp_events.specs.declared.events.Action.{Action}
use Rattle.msrp_events.specs.declared.events.Action.TheVariants.{Release, Step}
use Rattle.msrp_events.specs.declared.states.LiveJob.{LiveJob}
use Rattle.msrp_event_audit.specs.LogJobs.{IsKnown}
use Rattle.msrp_event_audit.specs.declared.states.State.{State}

-- the state of the definitions, from the fields
abbrev pub state_of : State → LogState
state_of s = record { jobs = s.jobs.items; cores = s.cores.items; free = s.free.items; next = s.next.items; stopped = s.stopped }

-- the state is one of the system: it has its cores and tasks, and each job is of one of these tasks
pub record Fits (system : PlanModel) (s : LogState) : Type 0 where
  pub cores : length s.cores ≡ system.cores
  pub next : length s.next ≡ length system.tasks
  pub jobs : All (IsKnown system) s.jobs

-- there is room for what the event adds
abbrev pub CanStep : List LiveJob → JobId → Type 0
CanStep jobs j = (i : ℕ) → place_of jobs j ≡ Some i → (slice_index_or jobs i no_job).step + 1 < 2 ^ 32

-- there is room for the action, and its job is known
abbrev pub CanChange : Action → List LiveJob → ℕ → Type 0
CanChange (Release j deadline) jobs room = length jobs < room
CanChange (Step kind j r) jobs room = CanStep jobs j
CanChange _ jobs room = ⊤

-- a job that is released is one of the tasks
abbrev pub CanCount : {X : Type 0} → Action → List X → Type 0
CanCount (Release j deadline) tasks = j.task.0 < length tasks
CanCount _ tasks = ⊤
