-- Preemption levels and ceilings of resources (Baker 1991; for global resources Gai, Lipari and Di
-- Natale 2001, the MSRP rules).
use Rattle.std.specs.Prelude.{ℕ, List, [], ◌∷◌, Bool, ◌==◌, ◌&&◌, not, nat_lt, nat_eq, if◌then◌else◌, fold, filter, map, length, max, ◌+◌}
use Rattle.std.specs.List.{list_any}
use Rattle.msrp_plan.specs.Plan.{PlanModel, TaskModel, task_at}
use Rattle.msrp_plan.specs.Units.{is_lock_of}

-- each number once
abbrev pub distinct : List ℕ → List ℕ
distinct [] = []
distinct (x ∷ xs) = if list_any (nat_eq x) xs then distinct xs else x ∷ distinct xs

-- the greatest of the numbers, 0 if there is none
abbrev pub greatest : List ℕ → ℕ
greatest ns = fold max 0 ns

-- the preemption level of a task: 1 plus the number of distinct longer relative deadlines
abbrev pub level_of : PlanModel → TaskModel → ℕ
level_of plan task = length (distinct (filter (nat_lt task.deadline) (map (λ u. u.deadline) plan.tasks))) + 1

-- the preemption level of a task, by its number
abbrev pub level : PlanModel → ℕ → ℕ
level plan t = level_of plan (task_at plan t)

-- a task uses what it locks
abbrev pub uses : ℕ → TaskModel → Bool
uses g task = list_any (is_lock_of g) task.units

-- a resource is global where tasks of two cores use it, and local elsewhere
abbrev pub is_global : PlanModel → ℕ → Bool
is_global plan g = list_any (λ a. list_any (λ b. uses g a && (uses g b && not (a.core == b.core))) plan.tasks) plan.tasks

-- the ceiling of a local resource: the highest level of the tasks that use it, 0 if none does
abbrev pub local_ceiling : PlanModel → ℕ → ℕ
local_ceiling plan g = greatest (map (level_of plan) (filter (uses g) plan.tasks))

-- the highest level of a core's tasks, 0 if it has none: the ceiling of each global resource there
abbrev pub top : PlanModel → ℕ → ℕ
top plan c = greatest (map (level_of plan) (filter (λ a. a.core == c) plan.tasks))
