-- The users of a resource, and its ceiling at a core.
use Rattle.msrp_plan.specs.Common.{ℕ, List, length, range_with_len, PlanModel, task_at, uses, is_global, local_ceiling, top}
use Rattle.std.specs.Prelude.{if◌then◌else◌, filter}

-- the numbers of the tasks that use the resource, in rising order
abbrev pub users : PlanModel → ℕ → List ℕ
users plan g = filter (λ t. uses g (task_at plan t)) (range_with_len 0 (length plan.tasks))

-- the ceiling of a resource at a core: for a global one the core's highest level (Gai, Lipari and
-- Di Natale 2001), for a local one the highest level of its users (Baker 1991)
abbrev pub ceiling_at : PlanModel → ℕ → ℕ → ℕ
ceiling_at plan g c = if is_global plan g then top plan c else local_ceiling plan g
