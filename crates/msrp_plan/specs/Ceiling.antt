-- The current ceiling of a core (Baker 1991; Gai, Lipari and Di Natale 2001, the MSRP rules: it is
-- the core's highest level from the request of a global resource to its release).
use Rattle.std.specs.Prelude.{ℕ, List, Bool, ◌&&◌, ◌||◌, not, if◌then◌else◌, filter, map, length, max}
use Rattle.std.specs.List.{list_any, range_with_len}
use Rattle.msrp_plan.specs.Plan.{PlanModel}
use Rattle.msrp_plan.specs.Jobs.{jobs_on, holds, is_queued}
use Rattle.msrp_plan.specs.Levels.{greatest, is_global, local_ceiling, top}
use Rattle.msrp_plan.specs.declared.rows.Row.{Row}

-- the numbers of the plan's resources
abbrev pub resources : PlanModel → List ℕ
resources plan = range_with_len 0 (length plan.resources)

-- the current ceiling of a core, by whether one of its jobs is queued for a global resource, and
-- which resources its jobs hold: the greatest of the ceilings of the local ones and, while a job is
-- queued for a global resource or holds one, of the core's highest level; 0 if there is none
abbrev pub raised_with : PlanModel → Bool → (ℕ → Bool) → Bool
raised_with plan queued held = queued || list_any (λ g. is_global plan g && held g) (resources plan)

abbrev pub ceiling_with : PlanModel → ℕ → Bool → (ℕ → Bool) → ℕ
ceiling_with plan c queued held =
    max (greatest (map (local_ceiling plan) (filter (λ g. not (is_global plan g) && held g) (resources plan))))
    (if raised_with plan queued held then top plan c else 0)

-- after these rows a job of the core holds the resource
abbrev pub is_held_on : PlanModel → ℕ → List Row → ℕ → Bool
is_held_on plan c pre g = list_any (holds plan pre g) (jobs_on plan c)

-- after these rows a job of the core is queued
abbrev pub is_queued_on : PlanModel → ℕ → List Row → Bool
is_queued_on plan c pre = list_any (is_queued pre) (jobs_on plan c)

-- the current ceiling of the core after these rows
abbrev pub ceiling : PlanModel → ℕ → List Row → ℕ
ceiling plan c pre = ceiling_with plan c (is_queued_on plan c pre) (is_held_on plan c pre)
