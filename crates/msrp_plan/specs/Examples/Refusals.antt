-- Calls of a builder: unfinished plans, each before one more call.
use Rattle.std.specs.Prelude.{ℕ, List, [], ◌∷◌, ◌++◌, map, replicate, codes}
use Rattle.std.specs.List.{range_with_len}
use Rattle.msrp_plan.specs.Plan.{PlanModel, TaskModel}
use Rattle.msrp_plan.specs.Examples.Notation.{listed, task, works, locks, unlocks, section}
use Rattle.msrp_plan.specs.declared.units.Op.{Op}

-- two cores, five ticks, the resources g and h, and these tasks
abbrev pub with_tasks : List TaskModel → PlanModel
with_tasks tasks = record { cores = 2; ticks = 5; resources = codes "g" ∷ codes "h" ∷ []; tasks = tasks }

-- a task of the name, core, period, relative deadline and offset, without units yet
abbrev pub fresh : List ℕ → ℕ → ℕ → ℕ → ℕ → TaskModel
fresh name core period deadline offset = task name core period deadline offset []

-- the plan's newest task, named a, has these units
abbrev pub after : List Op → PlanModel
after us = with_tasks (task (codes "a") 0 20 10 0 us ∷ [])

-- the plan's newest task, named a, is released at these ticks
abbrev pub after_ticks : List ℕ → PlanModel
after_ticks ticks = with_tasks (listed (codes "a") 0 10 ticks [] ∷ [])

-- 32 resources, and 64 tasks
abbrev pub full_of_resources : PlanModel
full_of_resources = record { cores = 1; ticks = 1; resources = replicate 32 (codes "r"); tasks = [] }

abbrev pub full_of_tasks : PlanModel
full_of_tasks = with_tasks (replicate 64 (task (codes "a") 0 20 10 0 (works 1)))

-- eight resources held
abbrev pub eight_held : PlanModel
eight_held = record { cores = 1; ticks = 1; resources = replicate 9 (codes "r"); tasks = task (codes "a") 0 20 10 0 (map locks (range_with_len 0 8)) ∷ [] }

-- core 0 locks h inside g, and core 1 locks one after the other: both are global
abbrev pub nested : PlanModel
nested = with_tasks (task (codes "a") 0 20 10 0 (locks 0 ∷ section 1 0 ++ unlocks 0 ∷ []) ∷ task (codes "b") 1 20 10 0 (section 0 0 ++ section 1 0) ∷ [])

-- the nested plan with a job of each task in every tick: far more than a plan may have
abbrev pub nested_with_many_jobs : PlanModel
nested_with_many_jobs = record { cores = 2; ticks = 20000; resources = codes "g" ∷ codes "h" ∷ []; tasks = task (codes "a") 0 1 10 0 (locks 0 ∷ section 1 0 ++ unlocks 0 ∷ []) ∷ task (codes "b") 1 1 10 0 (section 0 0 ++ section 1 0) ∷ [] }

-- core 1 doesn't use h: it is local
abbrev pub nested_local : PlanModel
nested_local = with_tasks (task (codes "a") 0 20 10 0 (locks 0 ∷ section 1 0 ++ unlocks 0 ∷ []) ∷ task (codes "b") 1 20 10 0 (section 0 0) ∷ [])
