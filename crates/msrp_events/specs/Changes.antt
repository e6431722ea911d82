-- What each event changes: the state without tolerances, and its clocks.
use Rattle.std.specs.Prelude.{◌∷◌, ◌++◌, ◌&&◌, remove, if◌then◌else◌, ◌+◌}
use Rattle.msrp_plan.specs.Common.{ℕ, List, [], Bool, true, false, not, Option, Some, None, fold, set, replicate, slice_index_or, length, PlanModel, core_of, same_choice}
use Rattle.msrp_plan.specs.declared.ids.JobId.{JobId}
use Rattle.msrp_events.specs.LiveJobs.{place_of, is_held, is_awaited}
use Rattle.msrp_events.specs.Choices.{choice}
use Rattle.msrp_events.specs.declared.states.LiveJob.{LiveJob}
use Rattle.msrp_events.specs.declared.states.CoreLog.{CoreLog}
use Rattle.msrp_events.specs.declared.events.Action.{Action}
use Rattle.msrp_events.specs.declared.events.Action.TheVariants.{Boot, Release, Switch, Step, End, Stop}
use Rattle.msrp_events.specs.declared.events.LockAction.{LockAction}
use Rattle.msrp_events.specs.declared.events.LockAction.TheVariants.{Request, Poll}
use Rattle.msrp_events.specs.declared.events.Event.{Event}

-- ---- the state
-- what is known after some events: the released, unended jobs, in the order of releases and
-- requests; each core; for each resource since when it has been free while a job awaits it; for
-- each task its next job's number; whether the log has stopped
pub record LogState : Type 0 where
  pub jobs : List LiveJob
  pub cores : List CoreLog
  pub free : List (Option ℕ)
  pub next : List ℕ
  pub stopped : Bool

-- used in place of a core, or a job, that isn't there
abbrev pub idle_core : CoreLog
idle_core = record { booted = false; time = 0; number = None; run = None; since = None; acted = None }

abbrev pub no_job : LiveJob
no_job = record { job = record { task = record { 0 = 0 }; k = 0 }; deadline = 0; started = false; waits = false; step = 0 }

-- the log of a core
abbrev pub core_at : List CoreLog → ℕ → CoreLog
core_at cores c = slice_index_or cores c idle_core

-- since when a resource has been free while a job awaits it
abbrev pub free_at : List (Option ℕ) → ℕ → Option ℕ
free_at free g = slice_index_or free g None

-- the number of a task's next job
abbrev pub next_at : List ℕ → ℕ → ℕ
next_at next t = slice_index_or next t 0

-- before the first event nothing is released, and no core's log has begun
abbrev pub first_state : PlanModel → LogState
first_state system = record {
  jobs = [];
  cores = replicate system.cores idle_core;
  free = replicate (length system.resources) None;
  next = replicate (length system.tasks) 0;
  stopped = false;
}

-- ---- jobs
-- the job at this index, if there is one, is changed; or removed; or changed and put last
abbrev pub changed_at : Option ℕ → (LiveJob → LiveJob) → List LiveJob → List LiveJob
changed_at None change jobs = jobs
changed_at (Some i) change jobs = set jobs i (change (slice_index_or jobs i no_job))

abbrev pub without_at : Option ℕ → List LiveJob → List LiveJob
without_at None jobs = jobs
without_at (Some i) jobs = remove jobs i

abbrev pub last_at : Option ℕ → (LiveJob → LiveJob) → List LiveJob → List LiveJob
last_at None change jobs = jobs
last_at (Some i) change jobs = remove jobs i ++ change (slice_index_or jobs i no_job) ∷ []

-- a job at its release
abbrev pub released : JobId → ℕ → LiveJob
released j deadline = record { job = j; deadline = deadline; started = false; waits = false; step = 0 }

-- the job has started
abbrev pub as_started : LiveJob → LiveJob
as_started j = record j { started = true }

-- the job awaits a resource
abbrev pub as_waiting : LiveJob → LiveJob
as_waiting j = record j { waits = true }

-- the job has done one more step, and awaits nothing
abbrev pub as_stepped : LiveJob → LiveJob
as_stepped j = record j { waits = false; step = j.step + 1 }

-- a request puts the job after all earlier requests, a poll does nothing, other steps count as one
abbrev pub jobs_stepped : LockAction → JobId → List LiveJob → List LiveJob
jobs_stepped Request j jobs = last_at (place_of jobs j) as_waiting jobs
jobs_stepped Poll j jobs = jobs
jobs_stepped _ j jobs = changed_at (place_of jobs j) as_stepped jobs

-- what an action does to the released jobs
abbrev pub jobs_with : Action → List LiveJob → List LiveJob
jobs_with (Release j deadline) jobs = jobs ++ released j deadline ∷ []
jobs_with (Switch (Some j)) jobs = changed_at (place_of jobs j) as_started jobs
jobs_with (Step kind j r) jobs = jobs_stepped kind j jobs
jobs_with (End j) jobs = without_at (place_of jobs j) jobs
jobs_with _ jobs = jobs

-- a release counts one more job of its task
abbrev pub next_with : Action → List ℕ → List ℕ
next_with (Release j deadline) next = set next j.task.0 (j.k + 1)
next_with _ next = next

-- ---- cores
-- the core of the event does this
abbrev pub acts : Action → ℕ → CoreLog → CoreLog
acts Boot now c = record c { booted = true }
acts (Switch j) now c = record c { run = j }
acts (Step kind j r) now c = record c { acted = Some now }
acts (End j) now c = record c { run = None }
acts _ now c = c

-- the core of an event after it
abbrev pub core_with : Event → CoreLog → CoreLog
core_with e c = acts e.action e.time (record c { time = e.time; number = e.number })

-- the action ends the log
abbrev pub stopped_with : Action → Bool
stopped_with Stop = true
stopped_with _ = false

-- ---- clocks
-- a clock runs from the event that makes its condition true to one that makes it false
abbrev pub clock_after : Bool → Option ℕ → ℕ → Option ℕ
clock_after false clock now = None
clock_after true None now = Some now
clock_after true (Some t) now = Some t

-- the core whose choice the event may change: a release may come from another core
abbrev pub core_touched : PlanModel → Event → ℕ
core_touched system e = of_action e.action where
  of_action : Action → ℕ
  of_action (Release j deadline) = core_of system j
  of_action _ = e.core.0

-- the resource that the action may free or make awaited
abbrev pub resource_touched : Action → Option ℕ
resource_touched (Step kind j r) = Some r.0
resource_touched _ = None

-- the core, whose log has begun, should run another job than it does
abbrev pub differs : PlanModel → List LiveJob → CoreLog → ℕ → Bool
differs system jobs core c = core.booted && not (same_choice (choice system jobs c) core.run)

-- the resource is free while a job awaits it
abbrev pub is_ungranted : PlanModel → List LiveJob → ℕ → Bool
is_ungranted system jobs g = is_awaited system jobs g && not (is_held system jobs g)

-- since when a core should run another job
abbrev pub since_with : PlanModel → List LiveJob → ℕ → ℕ → CoreLog → CoreLog
since_with system jobs c now core = record core { since = clock_after (differs system jobs core c) core.since now }

-- the clock of one core, after an event
abbrev pub cores_timed : PlanModel → List LiveJob → ℕ → ℕ → List CoreLog → List CoreLog
cores_timed system jobs c now cores = set cores c (since_with system jobs c now (core_at cores c))

-- the clock of one resource, after an event
abbrev pub free_timed : PlanModel → List LiveJob → Option ℕ → ℕ → List (Option ℕ) → List (Option ℕ)
free_timed system jobs None now free = free
free_timed system jobs (Some g) now free = set free g (clock_after (is_ungranted system jobs g) (free_at free g) now)

-- ---- the state after one more event
abbrev pub cores_acted : Event → List CoreLog → List CoreLog
cores_acted e cores = set cores e.core.0 (core_with e (core_at cores e.core.0))

-- what an event changes
abbrev pub moved : PlanModel → LogState → Event → LogState
moved system s e = record {
  jobs = jobs_with e.action s.jobs;
  cores = cores_timed system (jobs_with e.action s.jobs) (core_touched system e) e.time (cores_acted e s.cores);
  free = free_timed system (jobs_with e.action s.jobs) (resource_touched e.action) e.time s.free;
  next = next_with e.action s.next;
  stopped = stopped_with e.action;
}

-- after the log has stopped nothing changes
abbrev pub state_with : PlanModel → LogState → Event → LogState
state_with system s e = if s.stopped then s else moved system s e

-- the state after some events
abbrev pub state_from : PlanModel → LogState → List Event → LogState
state_from system s events = fold (state_with system) s events
