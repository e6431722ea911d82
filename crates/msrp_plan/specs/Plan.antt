-- A plan: recurring tasks, partitioned over cores, and the resources that they lock.
use Rattle.std.specs.Prelude.{ℕ, List, [], Option, slice_index_or, unwrap_or, ◌+◌}
use Rattle.msrp_plan.specs.ReleaseTimes.{ReleaseTimes, Every, tick_of}
use Rattle.msrp_plan.specs.declared.ids.JobId.{JobId}
use Rattle.msrp_plan.specs.declared.ids.JobKey.{JobKey}
use Rattle.msrp_plan.specs.declared.units.Op.{Op}

-- a task: it stays on its core, and each of its jobs does these units in order
pub record TaskModel : Type 0 where
  pub name : List ℕ
  pub core : ℕ
  pub times : ReleaseTimes
  pub deadline : ℕ
  pub units : List Op

-- cores, ticks, the tasks and the names of the resources, each by number
pub record PlanModel : Type 0 where
  pub cores : ℕ
  pub ticks : ℕ
  pub resources : List (List ℕ)
  pub tasks : List TaskModel

-- used in place of a task that the plan lacks: it has no unit
abbrev pub no_task : TaskModel
no_task = record { name = []; core = 0; times = Every 1 0; deadline = 1; units = [] }

-- the task of this number
abbrev pub task_at : PlanModel → ℕ → TaskModel
task_at plan t = slice_index_or plan.tasks t no_task

-- the task of a job, its core and its units
abbrev pub task_of : PlanModel → JobId → TaskModel
task_of plan j = task_at plan j.task.0

abbrev pub core_of : PlanModel → JobId → ℕ
core_of plan j = (task_of plan j).core

abbrev pub units : PlanModel → JobId → List Op
units plan j = (task_of plan j).units

-- the tick in which a job is released, if its task has such a release
abbrev pub release_tick : PlanModel → JobId → Option ℕ
release_tick plan j = tick_of (task_of plan j).times j.k

-- the tick of a job's release, or the plan's end if it has none: then it isn't a job of the plan
abbrev pub release : PlanModel → JobId → ℕ
release plan j = unwrap_or (release_tick plan j) plan.ticks

-- the key that jobs are ordered by begins with the absolute deadline, release + relative deadline
abbrev pub key : PlanModel → JobId → JobKey
key plan j = record { deadline = release plan j + (task_of plan j).deadline; release = release plan j; task = j.task.0; k = j.k }
