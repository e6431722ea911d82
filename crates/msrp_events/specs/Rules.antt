-- The rules of a legal log, and what a log may lack. Each is a test of one event after others.
use Rattle.std.specs.Prelude.{◌==◌, ◌&&◌, ◌||◌, ◌+◌}
use Rattle.msrp_plan.specs.Common.{ℕ, List, Bool, true, false, not, nat_lt, nat_le, is_some, Option, Some, None, length, find, list_any, option_map, PlanModel, units, is_job, is_global}
use Rattle.msrp_plan.specs.declared.ids.JobId.{JobId}
use Rattle.msrp_events.specs.LiveJobs.{next_unit, locks_next, unlocks_next, awaits, is_held}
use Rattle.msrp_events.specs.declared.states.LiveJob.{LiveJob}
use Rattle.msrp_events.specs.declared.states.CoreLog.{CoreLog}
use Rattle.msrp_events.specs.declared.states.Tolerances.{Tolerances}
use Rattle.msrp_events.specs.declared.events.LockAction.{LockAction}
use Rattle.msrp_events.specs.declared.events.LockAction.TheVariants.{Lock, Unlock, Request, Acquire, Poll, Freed}

-- ---- time
-- more than this has passed since then; or at least this
abbrev pub is_past : Option ℕ → ℕ → ℕ → Bool
is_past None wait now = true
is_past (Some t) wait now = nat_lt (t + wait) now

abbrev pub is_reached : Option ℕ → ℕ → ℕ → Bool
is_reached None wait now = true
is_reached (Some t) wait now = nat_le (t + wait) now

-- how long the kernel may take to react. A clock may have begun by another core's time: a release
-- may be recorded by any core
abbrev pub allowance : Tolerances → ℕ
allowance tolerances = tolerances.slack + tolerances.skew

-- E1: for longer than this the core hasn't run the right job, from its own last operation's end on
abbrev pub is_overdue : Tolerances → ℕ → CoreLog → Bool
is_overdue tolerances now c = is_some c.since && (is_past c.since (allowance tolerances) now && is_past c.acted (tolerances.operation + allowance tolerances) now)

-- some core is overdue
abbrev pub any_overdue : Tolerances → List CoreLog → ℕ → Bool
any_overdue tolerances cores now = list_any (is_overdue tolerances now) cores

-- E2: for longer than this the resource has been free while a job awaits it
abbrev pub is_late : ℕ → ℕ → Option ℕ → Bool
is_late wait now None = false
is_late wait now (Some t) = nat_lt (t + wait) now

-- some resource has been free too long
abbrev pub any_late : Tolerances → List (Option ℕ) → ℕ → Bool
any_late tolerances free now = list_any (is_late (tolerances.operation + tolerances.slack + tolerances.skew) now) free

-- E8, for a step: for as long as allowed the core hasn't run the right job, and another still acts
abbrev pub acts_late : Tolerances → ℕ → CoreLog → Bool
acts_late tolerances now c = is_some c.since && (is_reached c.since (allowance tolerances) now && is_reached c.acted (tolerances.operation + allowance tolerances) now)

-- ---- the rules of a step
-- E9: the step is the job's next one; exactly a waiting job acquires or polls
abbrev pub is_next_step : PlanModel → LockAction → ℕ → LiveJob → Bool
is_next_step system Lock g j = not j.waits && (locks_next g (next_unit system j) && not (is_global system g))
is_next_step system Unlock g j = not j.waits && (unlocks_next g (next_unit system j) && not (is_global system g))
is_next_step system Request g j = not j.waits && (locks_next g (next_unit system j) && is_global system g)
is_next_step system Freed g j = not j.waits && (unlocks_next g (next_unit system j) && is_global system g)
is_next_step system _ g j = awaits system g j

-- of the jobs that await the resource, the first to request it
abbrev pub first_waiting : PlanModel → List LiveJob → ℕ → Option JobId
first_waiting system jobs g = option_map (λ x. x.job) (find (awaits system g) jobs)

-- the job is the first to wait for the resource
abbrev pub is_first : PlanModel → List LiveJob → ℕ → JobId → Bool
is_first system jobs g j = is_job (first_waiting system jobs g) j

-- E10: what is locked or acquired is free; the first requester acquires; a failing poll must fail
abbrev pub has_outcome : PlanModel → List LiveJob → LockAction → ℕ → JobId → Bool
has_outcome system jobs Lock g j = not (is_held system jobs g)
has_outcome system jobs Acquire g j = not (is_held system jobs g) && is_first system jobs g j
has_outcome system jobs Poll g j = is_held system jobs g || not (is_first system jobs g j)
has_outcome system jobs _ g j = true

-- E9, for an end: no lock or unlock is left
abbrev pub is_done : PlanModel → LiveJob → Bool
is_done system j = not j.waits && (j.step == length (units system j.job))
