-- Jobs, and their progress after rows of a trace, which is counted in the rows, not stored.
use Rattle.std.specs.Prelude.{ℕ, List, Bool, true, false, ◌==◌, ◌&&◌, not, nat_lt, nat_le, Option, Some, None, fold, filter, map, count_by, length, take}
use Rattle.std.specs.List.{list_any, range_with_len, flat_map}
use Rattle.msrp_plan.specs.Plan.{PlanModel, core_of, release, units}
use Rattle.msrp_plan.specs.Units.{holds_after}
use Rattle.msrp_plan.specs.declared.ids.JobId.{JobId}
use Rattle.msrp_plan.specs.declared.rows.Kind.{Kind}
use Rattle.msrp_plan.specs.declared.rows.Kind.TheVariants.{Queue, Spin}
use Rattle.msrp_plan.specs.declared.rows.Row.{Row}

-- the k-th job of a task
abbrev pub job_at : ℕ → ℕ → JobId
job_at t k = record { task = record { 0 = t }; k = k }

-- the jobs of a task: of its releases before the plan's end
abbrev pub jobs_of : PlanModel → ℕ → List JobId
jobs_of plan t = filter (λ j. nat_lt (release plan j) plan.ticks) (map (job_at t) (range_with_len 0 plan.ticks))

-- the jobs of the plan, task by task
abbrev pub jobs : PlanModel → List JobId
jobs plan = flat_map (jobs_of plan) (range_with_len 0 (length plan.tasks))

-- the jobs of the tasks of a core
abbrev pub jobs_on : PlanModel → ℕ → List JobId
jobs_on plan c = filter (λ j. core_of plan j == c) (jobs plan)

-- the same task and the same number
abbrev pub same_job : JobId → JobId → Bool
same_job i j = (i.task.0 == j.task.0) && (i.k == j.k)

-- there is a job, and it is this one
abbrev pub is_job : Option JobId → JobId → Bool
is_job None j = false
is_job (Some i) j = same_job i j

-- the row is one of the job's
abbrev pub is_row_of : JobId → Row → Bool
is_row_of j r = is_job r.job j

-- a row in which its job waits for a global resource, and does nothing else
abbrev pub is_waiting : Kind → Bool
is_waiting Queue = true
is_waiting Spin = true
is_waiting _ = false

-- how many of its units a job has done: its rows but those in which it waits
abbrev pub done : JobId → List Row → ℕ
done j pre = count_by (λ r. is_row_of j r && not (is_waiting r.kind)) pre

-- the job is released by this tick
abbrev pub is_released : PlanModel → ℕ → JobId → Bool
is_released plan t j = nat_le (release plan j) t

-- a job is started by its first row
abbrev pub is_started : List Row → JobId → Bool
is_started pre j = list_any (is_row_of j) pre

-- a job is finished once all of its units are done
abbrev pub is_finished : PlanModel → List Row → JobId → Bool
is_finished plan pre j = done j pre == length (units plan j)

-- the last row of the job is one in which it waits
abbrev pub is_queued : List Row → JobId → Bool
is_queued pre j = fold (λ _ r. is_waiting r.kind) false (filter (is_row_of j) pre)

-- the job has locked the resource and not yet unlocked it
abbrev pub holds : PlanModel → List Row → ℕ → JobId → Bool
holds plan pre g j = holds_after (take (done j pre) (units plan j)) g
