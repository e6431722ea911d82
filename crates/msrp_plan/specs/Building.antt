-- What a builder has, what each call adds, and when it is refused, in the order of the checks.
use Rattle.std.specs.Prelude.{ℕ, List, [], ◌∷◌, ◌++◌, Bool, true, false, ◌==◌, ◌&&◌, ◌||◌, not, nat_lt, nat_le, is_none, Option, Some, None, if◌then◌else◌, length, map, replicate, slice_get, slice_index_or, set, take, ◌+◌, ◌-◌, ◌≡◌, ◌⊎◌, IsOk, Ok, Err, ⊤}
use Rattle.std.specs.declared.result.Result.{Result}
use Rattle.std.specs.List.{list_any, range_with_len}
use Rattle.msrp_plan.specs.Limits.{most_cores, most_ticks, most_resources, most_tasks, most_units, most_held, most_jobs, most_releases, longest_time}
use Rattle.msrp_plan.specs.Names.{is_name, has_name}
use Rattle.msrp_plan.specs.ReleaseTimes.{ReleaseTimes, Every, Listed, is_listed, lacks_release, listed_ticks, with_tick}
use Rattle.msrp_plan.specs.Plan.{PlanModel, TaskModel, task_at, no_task}
use Rattle.msrp_plan.specs.Units.{held_after, held_with}
use Rattle.msrp_plan.specs.Jobs.{jobs}
use Rattle.msrp_plan.specs.Levels.{is_global}
use Rattle.msrp_plan.specs.declared.faults.PlanFault.{PlanFault}
use Rattle.msrp_plan.specs.declared.faults.PlanFault.TheVariants.{Name, Taken, Limit, Undeclared, Core, Nesting, NestedGlobal, NoUnit, Jobs, Releases, Memory}
use Rattle.msrp_plan.specs.declared.units.Op.{Op}
use Rattle.msrp_plan.specs.declared.units.Op.TheVariants.{Run as RunUnit, Lock as LockUnit, Unlock as UnlockUnit}
use Rattle.msrp_plan.specs.declared.units.Step.{Step}
use Rattle.msrp_plan.specs.declared.units.Step.TheVariants.{Run, Lock, Unlock}

-- a plan with no resource and no task yet
abbrev pub empty_plan : ℕ → ℕ → PlanModel
empty_plan cores ticks = record { cores = cores; ticks = ticks; resources = []; tasks = [] }

-- a plan with one more resource
abbrev pub with_resource : PlanModel → List ℕ → PlanModel
with_resource plan name = record plan { resources = plan.resources ++ name ∷ [] }

-- a declared task, from its name, core, release times and relative deadline: it has no unit yet
abbrev pub new_task : List ℕ → ℕ → ReleaseTimes → ℕ → TaskModel
new_task name core times deadline = record { name = name; core = core; times = times; deadline = deadline; units = [] }

-- the release times of a task as it is declared: a list has no tick yet
abbrev pub AreNew : ReleaseTimes → Type 0
AreNew (Every period offset) = ⊤
AreNew (Listed ticks) = ticks ≡ []

-- a plan with one more task
abbrev pub with_task : PlanModel → TaskModel → PlanModel
with_task plan task = record plan { tasks = plan.tasks ++ task ∷ [] }

-- the units that a step adds
abbrev pub units_of : Step → List Op
units_of (Run n) = replicate n RunUnit
units_of (Lock g) = LockUnit g ∷ []
units_of (Unlock g) = UnlockUnit g ∷ []

-- the task that was declared last, and its units
abbrev pub newest_task : PlanModel → TaskModel
newest_task plan = task_at plan (length plan.tasks - 1)

abbrev pub newest_units : PlanModel → List Op
newest_units plan = (newest_task plan).units

-- the tasks with the last of them changed
abbrev pub with_newest : (TaskModel → TaskModel) → List TaskModel → List TaskModel
with_newest changed tasks = set tasks (length tasks - 1) (changed (slice_index_or tasks (length tasks - 1) no_task))

-- a task, and a plan's newest one, with more units
abbrev pub with_more_units : List Op → TaskModel → TaskModel
with_more_units us task = record task { units = task.units ++ us }

abbrev pub with_units : PlanModel → List Op → PlanModel
with_units plan us = record plan { tasks = with_newest (with_more_units us) plan.tasks }

-- a task, and a plan's newest one, with one more release
abbrev pub with_more_ticks : ℕ → TaskModel → TaskModel
with_more_ticks tick task = record task { times = with_tick task.times tick }

abbrev pub with_release : PlanModel → ℕ → PlanModel
with_release plan tick = record plan { tasks = with_newest (with_more_ticks tick) plan.tasks }

-- the fault if the test holds, and otherwise what the later checks find
abbrev pub fault_if : Bool → PlanFault → Option PlanFault → Option PlanFault
fault_if test fault rest = if test then Some fault else rest

-- the first of two faults, if there is one
abbrev pub first_fault : Option PlanFault → Option PlanFault → Option PlanFault
first_fault None rest = rest
first_fault (Some fault) rest = Some fault

-- the number is in this range, whose ends belong to it
abbrev pub is_within : ℕ → ℕ → ℕ → Bool
is_within low high n = nat_le low n && nat_le n high

-- a number of cores or of ticks outside its range
abbrev pub new_fault : ℕ → ℕ → Option PlanFault
new_fault cores ticks = fault_if (not (is_within 1 most_cores cores && is_within 1 most_ticks ticks)) Limit None

-- one more resource: its name is no name, is taken, or is one too many
abbrev pub resource_fault : PlanModel → List ℕ → Option PlanFault
resource_fault plan name =
    fault_if (not (is_name name)) Name (
    fault_if (has_name plan.resources name) Taken (
    fault_if (nat_le most_resources (length plan.resources)) Limit None))

-- the units nest properly, and nothing is held after them
abbrev pub is_none_held : Option (List ℕ) → Bool
is_none_held None = false
is_none_held (Some []) = true
is_none_held (Some (g ∷ held)) = false

-- a task may end if it has a release and a unit and holds nothing
abbrev pub task_end_fault : TaskModel → Option PlanFault
task_end_fault task =
    fault_if (lacks_release task.times) Releases (
    fault_if (length task.units == 0) NoUnit (
    fault_if (not (is_none_held (held_after task.units))) Nesting None))

-- the end of the newest task, if there is one
abbrev pub end_fault : PlanModel → Option PlanFault
end_fault plan = if length plan.tasks == 0 then None else task_end_fault (newest_task plan)

-- a period and an offset in their ranges; a list has no tick yet when its task is declared
abbrev pub are_in_range : ReleaseTimes → Bool
are_in_range (Every period offset) = is_within 1 longest_time period && nat_le offset longest_time
are_in_range (Listed ticks) = true

-- a task's times and its relative deadline are in their ranges
abbrev pub is_in_range : TaskModel → Bool
is_in_range task = are_in_range task.times && is_within 1 longest_time task.deadline

-- one more task, after the end of the newest one
abbrev pub task_fault : PlanModel → TaskModel → Option PlanFault
task_fault plan task =
    first_fault (end_fault plan) (
    fault_if (not (is_name task.name)) Name (
    fault_if (has_name (map (λ u. u.name) plan.tasks) task.name) Taken (
    fault_if (nat_le plan.cores task.core) Core (
    fault_if (not (is_in_range task) || nat_le most_tasks (length plan.tasks)) Limit None))))

-- the newest task takes releases: it is a listed one and has no unit yet
abbrev pub takes_releases : PlanModel → Bool
takes_releases plan = is_listed (newest_task plan).times && (length (newest_task plan).units == 0)

-- the tick is above the one before it, if there is one
abbrev pub is_above : Option ℕ → ℕ → Bool
is_above None tick = true
is_above (Some before) tick = nat_lt before tick

-- one more tick of a list: too late or one too many, or not above the one before it
abbrev pub tick_fault : List ℕ → ℕ → Option PlanFault
tick_fault ticks tick =
    fault_if (nat_lt longest_time tick || nat_le most_releases (length ticks)) Limit (
    fault_if (not (is_above (slice_get ticks (length ticks - 1)) tick)) Releases None)

-- one more release of the newest task
abbrev pub release_fault : PlanModel → ℕ → Option PlanFault
release_fault plan tick = tick_fault (listed_ticks (newest_task plan).times) tick

-- the step names a resource that the plan lacks
abbrev pub is_undeclared : PlanModel → Step → Bool
is_undeclared plan (Run n) = false
is_undeclared plan (Lock g) = nat_le (length plan.resources) g.0
is_undeclared plan (Unlock g) = nat_le (length plan.resources) g.0

-- the unit locks what is held, or unlocks what isn't the innermost held
abbrev pub is_improper : Option (List ℕ) → Op → Bool
is_improper None u = true
is_improper (Some held) u = is_none (held_with held u)

-- the step locks or unlocks in the wrong order
abbrev pub is_misnested : List Op → Step → Bool
is_misnested us (Run n) = false
is_misnested us (Lock g) = is_improper (held_after us) (LockUnit g)
is_misnested us (Unlock g) = is_improper (held_after us) (UnlockUnit g)

-- how many resources are held
abbrev pub held_count : Option (List ℕ) → ℕ
held_count None = 0
held_count (Some held) = length held

-- a run of no unit, or more units or more held resources than a task may have
abbrev pub is_too_much : List Op → Step → Bool
is_too_much us (Run n) = (n == 0) || nat_lt most_units (length us + n)
is_too_much us (Lock g) = nat_le most_units (length us) || nat_le most_held (held_count (held_after us))
is_too_much us (Unlock g) = nat_le most_units (length us)

-- one more step of the newest task
abbrev pub op_fault : PlanModel → Step → Option PlanFault
op_fault plan step =
    fault_if (lacks_release (newest_task plan).times) Releases (
    fault_if (is_undeclared plan step) Undeclared (
    fault_if (is_misnested (newest_units plan) step) Nesting (
    fault_if (is_too_much (newest_units plan) step) Limit None)))

-- the unit locks a global resource
abbrev pub is_global_lock : PlanModel → Option Op → Bool
is_global_lock plan (Some (LockUnit g)) = is_global plan g.0
is_global_lock plan _ = false

-- a global resource is held
abbrev pub holds_global : PlanModel → Option (List ℕ) → Bool
holds_global plan None = false
holds_global plan (Some held) = list_any (is_global plan) held

-- one of the units locks a global resource while a global one is held
abbrev pub nests_global : PlanModel → List Op → Bool
nests_global plan us = list_any (λ n. is_global_lock plan (slice_get us n) && holds_global plan (held_after (take n us))) (range_with_len 0 (length us))

-- the end of the plan, after that of its newest task
abbrev pub finish_fault : PlanModel → Option PlanFault
finish_fault plan =
    first_fault (end_fault plan) (
    fault_if (list_any (λ task. nests_global plan task.units) plan.tasks) NestedGlobal (
    fault_if (nat_lt most_jobs (length (jobs plan))) Jobs None))

-- a call is refused with its fault if it has one, and otherwise only if memory runs out
abbrev pub IsJudged : {A : Type 0} → Option PlanFault → Result A PlanFault → Type 0
IsJudged (Some fault) r = r ≡ Err fault
IsJudged None r = IsOk r ⊎ (r ≡ Err Memory)

-- the answer of a call that needs no memory: its fault if it has one, otherwise the value
abbrev pub judged : {A : Type 0} → Option PlanFault → A → Result A PlanFault
judged None x = Ok x
judged (Some fault) x = Err fault

-- the answer of the last call, which hands a refused draft back
abbrev pub finished : Option PlanFault → PlanModel → Result PlanModel (PlanModel × PlanFault)
finished None plan = Ok plan
finished (Some fault) plan = Err (plan, fault)
