-- The released, unended jobs, and what each holds and awaits. A system is a plan without ticks and
-- release times: its deadlines are in ns, and its tasks' units are only locks and unlocks.
use Rattle.std.specs.Prelude.{◌==◌, ◌&&◌, ◌-◌}
use Rattle.msrp_plan.specs.Common.{ℕ, List, Bool, false, Option, Some, None, take, slice_get, list_any, option_and_then, PlanModel, task_of, core_of, units, same_job, is_lock_of, is_unlock_of, holds_after}
use Rattle.std.specs.List.{position}
use Rattle.msrp_plan.specs.declared.ids.JobId.{JobId}
use Rattle.msrp_plan.specs.declared.ids.JobKey.{JobKey}
use Rattle.msrp_plan.specs.declared.units.Op.{Op}
use Rattle.msrp_events.specs.declared.states.LiveJob.{LiveJob}

-- the key of a job: absolute deadline, release by the deadline, task number, job number
abbrev pub live_key : PlanModel → LiveJob → JobKey
live_key system j = record { deadline = j.deadline; release = j.deadline - (task_of system j.job).deadline; task = j.job.task.0; k = j.job.k }

-- the job belongs to the core
abbrev pub is_on : PlanModel → ℕ → LiveJob → Bool
is_on system c j = core_of system j.job == c

-- the job has locked the resource and not yet unlocked it
abbrev pub holds : PlanModel → ℕ → LiveJob → Bool
holds system g j = holds_after (take j.step (units system j.job)) g

-- the next lock or unlock of the job
abbrev pub next_unit : PlanModel → LiveJob → Option Op
next_unit system j = slice_get (units system j.job) j.step

-- the unit, if there is one, locks the resource
abbrev pub locks_next : ℕ → Option Op → Bool
locks_next g None = false
locks_next g (Some u) = is_lock_of g u

-- the unit, if there is one, unlocks the resource
abbrev pub unlocks_next : ℕ → Option Op → Bool
unlocks_next g None = false
unlocks_next g (Some u) = is_unlock_of g u

-- the job has requested the resource and not yet acquired it
abbrev pub awaits : PlanModel → ℕ → LiveJob → Bool
awaits system g j = j.waits && locks_next g (next_unit system j)

-- some job holds the resource; some job awaits it
abbrev pub is_held : PlanModel → List LiveJob → ℕ → Bool
is_held system jobs g = list_any (holds system g) jobs

abbrev pub is_awaited : PlanModel → List LiveJob → ℕ → Bool
is_awaited system jobs g = list_any (awaits system g) jobs

-- the index of a job among the jobs, and the job with what is known of it
abbrev pub place_of : List LiveJob → JobId → Option ℕ
place_of jobs j = position (λ x. same_job x.job j) jobs

abbrev pub live : List LiveJob → JobId → Option LiveJob
live jobs j = option_and_then (slice_get jobs) (place_of jobs j)
