-- Plans one past a limit.
use Rattle.std.specs.Prelude.{[], ◌∷◌, ◌++◌, ◌+◌, ◌-◌, codes, map}
use Rattle.std.specs.List.{range_with_len}
use Rattle.msrp_plan.specs.Examples.Notation.{task, works, locks, unlocks, PlanModel}

-- nine cores
abbrev pub nine_cores : PlanModel
nine_cores = record { cores = 9; ticks = 1; resources = []; tasks = [] }

-- a task that holds nine resources at once
abbrev pub nine_held : PlanModel
nine_held = record { cores = 1; ticks = 1; resources = map (λ n. codes "r" ++ (97 + n) ∷ []) (range_with_len 0 9); tasks = task (codes "a") 0 20 10 0 (map locks (range_with_len 0 9) ++ map (λ n. unlocks (8 - n)) (range_with_len 0 9)) ∷ [] }

-- a task without a unit
abbrev pub no_unit : PlanModel
no_unit = record { cores = 1; ticks = 1; resources = []; tasks = task (codes "a") 0 20 10 0 [] ∷ [] }

-- 8,193 jobs of one task
abbrev pub jobs_8193 : PlanModel
jobs_8193 = record { cores = 1; ticks = 8193; resources = []; tasks = task (codes "a") 0 1 1 0 (works 1) ∷ [] }
