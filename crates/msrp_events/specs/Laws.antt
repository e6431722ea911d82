-- The notions in the laws on logs.
use Rattle.std.specs.Prelude.{◌∷◌, ◌++◌, ◌==◌, ◌&&◌, ◌||◌, if◌then◌else◌, ◌+◌, ◌≡◌, ◌≤◌, ◌⊎◌}
use Rattle.msrp_plan.specs.Common.{ℕ, List, [], Bool, true, false, Option, Some, None, count_by, filter, map, filter_map, list_any, Contains, resources, is_global, PlanModel, task_at, holds_after}
use Rattle.msrp_plan.specs.declared.ids.JobId.{JobId}
use Rattle.msrp_events.specs.LiveJobs.{is_on, awaits, holds}
use Rattle.msrp_events.specs.Changes.{LogState, core_at, differs, is_ungranted, first_state, state_with, state_from}
use Rattle.msrp_events.specs.declared.events.Action.{Action}
use Rattle.msrp_events.specs.declared.events.Action.TheVariants.{Step}
use Rattle.msrp_events.specs.declared.events.LockAction.{LockAction}
use Rattle.msrp_events.specs.declared.events.LockAction.TheVariants.{Request, Acquire}
use Rattle.msrp_events.specs.Rules.{allowance}
use Rattle.msrp_events.specs.declared.states.LiveJob.{LiveJob}
use Rattle.msrp_events.specs.Findings.{finding_in, finding_from}
use Rattle.msrp_events.specs.declared.events.Event.{Event}
use Rattle.msrp_events.specs.declared.states.Tolerances.{Tolerances}

-- no finding on the events: they are the start of a legal log, or continue one from this state
abbrev pub IsLegalLog : PlanModel → Tolerances → List Event → Type 0
IsLegalLog system tolerances events = finding_in system tolerances events ≡ None

abbrev pub IsLegalFrom : PlanModel → Tolerances → LogState → List Event → Type 0
IsLegalFrom system tolerances s events = finding_from system tolerances s events ≡ None

-- the tolerances are at least as great
pub record AreWider (narrow wide : Tolerances) : Type 0 where
  pub operation : narrow.operation ≤ wide.operation
  pub slack : narrow.slack ≤ wide.slack
  pub skew : narrow.skew ≤ wide.skew
  pub backlog : narrow.backlog ≤ wide.backlog

-- at most one of the jobs holds each resource
abbrev pub IsHeldByOne : PlanModel → List LiveJob → Type 0
IsHeldByOne system jobs = (g : ℕ) → count_by (holds system g) jobs ≤ 1

-- the state after the events of a log
abbrev pub state_after : PlanModel → List Event → LogState
state_after system events = state_from system (first_state system) events

-- ---- the order of grants
abbrev pub is_request : LockAction → Bool
is_request Request = true
is_request _ = false

-- the job acquires a resource
abbrev pub is_acquire : LockAction → Bool
is_acquire Acquire = true
is_acquire _ = false

-- the job that does this to the resource, if the event is one of it
abbrev pub job_by : (LockAction → Bool) → ℕ → Action → Option JobId
job_by does g (Step kind j r) = if does kind && (r.0 == g) then Some j else None
job_by does g _ = None

-- the jobs that do this to the resource, in the order of the events
abbrev pub jobs_by : (LockAction → Bool) → ℕ → List Event → List JobId
jobs_by does g events = filter_map (λ e. job_by does g e.action) events

-- the jobs that await the resource, in the order of their requests
abbrev pub waiting : PlanModel → ℕ → List LiveJob → List JobId
waiting system g jobs = map (λ x. x.job) (filter (awaits system g) jobs)

-- ---- what holds from an event on
-- the test holds in this state, and after each of the events
abbrev pub Stays : PlanModel → (LogState → Bool) → LogState → List Event → Type 0
Stays system test s [] = test s ≡ true
Stays system test s (e ∷ events) = (test s ≡ true) × Stays system test (state_with system s e) events

-- in a legal log, which hasn't stopped before its last event e, the test holds from the event d on
pub record HoldsFrom (system : PlanModel) (tolerances : Tolerances) (test : LogState → Bool) (start : List Event) (d : Event) (mid : List Event) (e : Event) : Type 0 where
  pub legal : IsLegalLog system tolerances (start ++ d ∷ (mid ++ e ∷ []))
  pub runs : (state_after system (start ++ d ∷ mid)).stopped ≡ false
  pub before : test (state_after system start) ≡ false
  pub after : Stays system test (state_with system (state_after system start) d) mid

-- the core should run another job than it does; the resource is free while a job awaits it
abbrev pub is_off : PlanModel → ℕ → LogState → Bool
is_off system c s = differs system s.jobs (core_at s.cores c) c

abbrev pub is_due : PlanModel → ℕ → LogState → Bool
is_due system g s = is_ungranted system s.jobs g

-- each task unlocks what it locks
abbrev pub AreBalanced : PlanModel → Type 0
AreBalanced system = (t g : ℕ) → holds_after (task_at system t).units g ≡ false

-- a time is at most so long after another, if there is one
abbrev pub IsWithin : ℕ → Option ℕ → ℕ → Type 0
IsWithin wait None now = ⊥
IsWithin wait (Some t) now = now ≤ t + wait

-- the event is within the slack after the time, or after the end of the core's last operation
abbrev pub IsInTime : Tolerances → LogState → ℕ → ℕ → Event → Type 0
IsInTime tolerances s c t e =
    IsWithin (allowance tolerances) (Some t) e.time
    ⊎ IsWithin (tolerances.operation + allowance tolerances) (core_at s.cores c).acted e.time

-- the job waits for a global resource, or holds one
abbrev pub is_engaged : PlanModel → LiveJob → Bool
is_engaged system x = x.waits || list_any (λ g. is_global system g && holds system g x) (resources system)

-- a live job of the core does
pub record IsEngagedOn (system : PlanModel) (s : LogState) (c : ℕ) (x : LiveJob) : Type 0 where
  pub there : Contains s.jobs x
  pub core : is_on system c x ≡ true
  pub engaged : is_engaged system x ≡ true
