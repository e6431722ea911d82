-- The text on a plan before it runs: its levels, its ceilings and its tops (Baker 1991; for global
-- resources Gai, Lipari and Di Natale 2001).
use Rattle.std.specs.Prelude.{◌∷◌, ◌++◌, if◌then◌else◌}
use Rattle.msrp_plan.specs.Common.{ℕ, List, [], codes, decimal, length, slice_index_or, flat_map, range_with_len, PlanModel, task_at, is_global, level, local_ceiling, top}
use Rattle.msrp_text.specs.PlanText.{record_text}

-- a task by its number: its name and its preemption level
abbrev pub level_record : PlanModel → ℕ → List (List ℕ)
level_record plan t = codes "level" ∷ (task_at plan t).name ∷ decimal (level plan t) ∷ []

-- whether a resource is global, and its ceiling; a global one has none but the top of each core
abbrev pub ceiling_fields : PlanModel → ℕ → List (List ℕ)
ceiling_fields plan g = if is_global plan g then codes "global" ∷ codes "-" ∷ [] else codes "local" ∷ decimal (local_ceiling plan g) ∷ []

-- a resource by its number: its name, and its ceiling
abbrev pub ceiling_record : PlanModel → ℕ → List (List ℕ)
ceiling_record plan g = codes "ceiling" ∷ slice_index_or plan.resources g [] ∷ ceiling_fields plan g

-- a core by its number, and the highest level of its tasks
abbrev pub top_record : PlanModel → ℕ → List (List ℕ)
top_record plan c = codes "top" ∷ decimal c ∷ decimal (top plan c) ∷ []

-- a record for each number below n
abbrev pub told_each : (ℕ → List (List ℕ)) → ℕ → List ℕ
told_each told n = flat_map (λ i. record_text (told i)) (range_with_len 0 n)

-- each task, then each resource, then each core
unfoldable pub check_text : PlanModel → List ℕ
check_text plan = told_each (level_record plan) (length plan.tasks) ++ (told_each (ceiling_record plan) (length plan.resources) ++ told_each (top_record plan) plan.cores)
