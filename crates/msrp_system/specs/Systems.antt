-- A system as a plan: its deadlines are in ns, the units of its tasks are locks and unlocks alone,
-- and it has neither
-- ticks nor release times, which no definition on logs looks at.
use Rattle.std.specs.Prelude.{◌||◌, if◌then◌else◌, ◌≡◌, ◌⊎◌, IsOk}
use Rattle.msrp_plan.specs.Common.{ℕ, List, Bool, true, nat_le, nat_lt, Option, Some, None, length, list_any, map, Result, Err, PlanModel, TaskModel, string_bytes, Global, String, Every}
use Rattle.msrp_plan.specs.declared.units.Op.{Op}
use Rattle.msrp_plan.specs.declared.units.Op.TheVariants.{Run, Lock, Unlock}
use Rattle.msrp_system.specs.declared.parts.Task.{Task}
use Rattle.msrp_system.specs.declared.systems.SystemFault.{SystemFault}
use Rattle.msrp_system.specs.declared.systems.SystemFault.TheVariants.{Limit, Core, Undeclared, Memory}

-- the most that a system may have of each, and a task of steps
abbrev pub most_cores : ℕ
most_cores = 64

abbrev pub most_tasks : ℕ
most_tasks = 1024

abbrev pub most_resources : ℕ
most_resources = 1024

abbrev pub most_steps : ℕ
most_steps = 4096

-- what a clause sees of a task: its name, core, deadline and steps
abbrev pub task_view : Task → TaskModel
task_view task = record { name = string_bytes task.name; core = task.core.0; times = Every 1 0; deadline = task.deadline; units = task.steps.items }

-- the plan that stands for a system of these tasks
abbrev pub system_of : ℕ → List (String Global) → List Task → PlanModel
system_of cores resources tasks = record { cores = cores; ticks = 0; resources = map string_bytes resources; tasks = map task_view tasks }

-- ---- why a system is refused, in the order of judging
-- the step names a resource beyond this number of them, or is neither a lock nor an unlock
abbrev pub is_undeclared : ℕ → Op → Bool
is_undeclared resources Run = true
is_undeclared resources (Lock r) = nat_le resources r.0
is_undeclared resources (Unlock r) = nat_le resources r.0

-- the task names such a resource
abbrev pub names_undeclared : ℕ → Task → Bool
names_undeclared resources task = list_any (is_undeclared resources) task.steps.items

-- the task has more steps than it may have
abbrev pub is_long : Task → Bool
is_long task = nat_lt most_steps (length task.steps.items)

-- the task is on a core that the system lacks
abbrev pub is_beyond : ℕ → Task → Bool
is_beyond cores task = nat_le cores task.core.0

-- too many cores, resources, tasks, or steps of one task
abbrev pub is_past_limits : ℕ → ℕ → List Task → Bool
is_past_limits cores resources tasks = nat_lt most_cores cores || (nat_lt most_resources resources || (nat_lt most_tasks (length tasks) || list_any is_long tasks))

-- the first fault of a system
abbrev pub system_fault : ℕ → ℕ → List Task → Option SystemFault
system_fault cores resources tasks =
    if is_past_limits cores resources tasks then Some Limit else (
    if list_any (is_beyond cores) tasks then Some Core else (
    if list_any (names_undeclared resources) tasks then Some Undeclared else None))

-- a call is refused with its fault if it has one, and else only if memory runs out
abbrev pub IsJudged : {A : Type 0} → Option SystemFault → Result A SystemFault → Type 0
IsJudged (Some fault) r = r ≡ Err fault
IsJudged None r = IsOk r ⊎ (r ≡ Err Memory)
