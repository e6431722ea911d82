-- What holds of every accepted plan: its limits, and how its tasks lock and unlock.
use Rattle.std.specs.Prelude.{ℕ, List, true, false, Some, length, map, slice_get, take, ◌≡◌, ◌<◌, ◌≤◌, ◌+◌}
use Rattle.std.specs.List.{AllPass, IsDistinct}
use Rattle.std.specs.Str.{bytes_eq}
use Rattle.msrp_plan.specs.Limits.{most_cores, most_ticks, most_resources, most_tasks, most_units, most_held, most_jobs, longest_time}
use Rattle.msrp_plan.specs.Names.{is_name}
use Rattle.msrp_plan.specs.ReleaseTimes.{AreTimes, lacks_release}
use Rattle.msrp_plan.specs.Plan.{PlanModel, TaskModel, task_at}
use Rattle.msrp_plan.specs.Units.{locks, unlocks, held_after}
use Rattle.msrp_plan.specs.Jobs.{jobs}
use Rattle.msrp_plan.specs.Levels.{is_global}
use Rattle.msrp_plan.specs.declared.ids.ResId.{ResId}
use Rattle.msrp_plan.specs.declared.units.Op.{Op}
use Rattle.msrp_plan.specs.declared.units.Op.TheVariants.{Lock}

-- the names are names, and no two are equal
pub record AreNames (names : List (List ℕ)) : Type 0 where
  pub named : AllPass is_name names
  pub distinct : IsDistinct bytes_eq names

-- the numbers of a task: its core is one of the plan's, times are in ticks
pub record IsTask (plan : PlanModel) (task : TaskModel) : Type 0 where
  pub core : task.core < plan.cores
  pub times : AreTimes task.times
  pub deadline : (1 ≤ task.deadline) × (task.deadline ≤ longest_time)
  pub size : length task.units ≤ most_units

-- after the first n units the locks are properly nested, within the limit of held resources
abbrev pub IsNestedAt : List Op → ℕ → Type 0
IsNestedAt us n = (held : List ℕ) × (held_after (take n us) ≡ Some held) × (length held ≤ most_held)

-- how units lock, as far as they go
pub record IsLocking (plan : PlanModel) (us : List Op) : Type 0 where
  -- only resources of the plan are locked
  pub declared : (n : ℕ) (g : ResId) → slice_get us n ≡ Some (Lock g) → g.0 < length plan.resources
  -- the locks and unlocks of a resource alternate, a lock first
  pub below : (n g : ℕ) → unlocks g (take n us) ≤ locks g (take n us)
  pub once : (n g : ℕ) → locks g (take n us) ≤ unlocks g (take n us) + 1
  -- an unlock is of the innermost held resource
  pub nested : (n : ℕ) → IsNestedAt us n

-- the numbers and names of a plan and of its tasks, and how the tasks lock as far as they go
pub record IsDraft (plan : PlanModel) : Type 0 where
  pub cores : (1 ≤ plan.cores) × (plan.cores ≤ most_cores)
  pub ticks : (1 ≤ plan.ticks) × (plan.ticks ≤ most_ticks)
  pub resources : length plan.resources ≤ most_resources
  pub tasks : length plan.tasks ≤ most_tasks
  pub resource_names : AreNames plan.resources
  pub task_names : AreNames (map (λ task. task.name) plan.tasks)
  pub each : (t : ℕ) → t < length plan.tasks → IsTask plan (task_at plan t)
  pub locking : (t : ℕ) → t < length plan.tasks → IsLocking plan (task_at plan t).units

-- a whole task: it has a release and a unit, and holds nothing at the end
pub record IsWhole (task : TaskModel) : Type 0 where
  pub released : lacks_release task.times ≡ false
  pub work : 0 < length task.units
  pub balanced : (g : ℕ) → unlocks g task.units ≡ locks g task.units

-- no global resource is locked while a global one is held
pub record IsFlat (plan : PlanModel) (us : List Op) : Type 0 where
  pub alone : (n g : ℕ) (h : ResId) → slice_get us n ≡ Some (Lock h) → is_global plan h.0 ≡ true → is_global plan g ≡ true
      → locks g (take n us) ≤ unlocks g (take n us)

-- an accepted plan
pub record IsPlan (plan : PlanModel) : Type 0 where
  pub draft : IsDraft plan
  pub whole : (t : ℕ) → t < length plan.tasks → IsWhole (task_at plan t)
  pub flat : (t : ℕ) → t < length plan.tasks → IsFlat plan (task_at plan t).units
  pub jobs : length (jobs plan) ≤ most_jobs
