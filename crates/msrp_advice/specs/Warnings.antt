-- What is odd in an accepted plan.
use Rattle.std.specs.Prelude.{◌*◌, ◌==◌, ◌&&◌}
use Rattle.msrp_plan.specs.Common.{ℕ, Bool, filter, length, nat_le, nat_lt, not, list_any, range_with_len, sum_by, job_at, jobs_of, top, PlanModel, key, task_at}
use Rattle.msrp_levels.specs.Users.{users}
use Rattle.msrp_advice.specs.declared.warnings.Warning.{Warning}
use Rattle.msrp_advice.specs.declared.warnings.Warning.TheVariants.{NoJob, ShortDeadline, UnusedResource, IdleCore, Overload, NoDeadline}

-- how many units the jobs of a task have
abbrev pub units_of : PlanModel → ℕ → ℕ
units_of plan task = length (jobs_of plan task) * length (task_at plan task).units

-- how many units the jobs of a core have: those of its tasks
abbrev pub core_units : PlanModel → ℕ → ℕ
core_units plan core = sum_by (units_of plan) (filter (λ task. (task_at plan task).core == core) (range_with_len 0 (length plan.tasks)))

-- a task has a job, and the first of them has its absolute deadline within the ticks
abbrev pub has_deadline : PlanModel → ℕ → Bool
has_deadline plan task = nat_lt 0 (length (jobs_of plan task)) && nat_le (key plan (job_at task 0)).deadline plan.ticks

-- a warning is a fact of the plan
abbrev pub is_odd : PlanModel → Warning → Bool
is_odd plan (NoJob task) = length (jobs_of plan task.0) == 0
is_odd plan (ShortDeadline task units deadline) = (units == length (task_at plan task.0).units) && (deadline == (task_at plan task.0).deadline) && nat_lt deadline units
is_odd plan (UnusedResource res) = length (users plan res.0) == 0
is_odd plan (IdleCore core) = top plan core.0 == 0
is_odd plan (Overload core units) = (units == core_units plan core.0) && nat_lt plan.ticks units
is_odd plan NoDeadline = not (list_any (has_deadline plan) (range_with_len 0 (length plan.tasks)))
