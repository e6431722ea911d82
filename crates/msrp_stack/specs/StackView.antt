-- What a clause sees of a stack, and what its fields hold.
use Rattle.std.specs.Prelude.{◌∷◌, ◌≡◌, ◌<◌, ◌≤◌}
use Rattle.msrp_plan.specs.Common.{ℕ, List, [], map, reverse, length, slice_index_or, vec_capacity, ⊤, AllByRecursion, Contains, PlanModel, jobs_on, IsPlan, most_resources}
use Rattle.msrp_stack.specs.Stack.{StartedJob, StackModel, ComesFirst}
use Rattle.msrp_levels.specs.Users.{ceiling_at}
use Rattle.msrp_stack.specs.Layers.{Layers, layers_of}
use Rattle.msrp_stack.specs.declared.stack.Started.{Started}
use Rattle.msrp_stack.specs.declared.stack.CeilingStack.TheInside.{Inside}

abbrev pub started_view : Started → StartedJob
started_view s = record { job = s.job; held = map (λ h. h.res.0) (reverse s.held.items) }

-- the started jobs, which are stored with the newest last
abbrev pub started_of : List Started → List StartedJob
started_of items = map started_view (reverse items)

-- each started job comes before those started earlier
abbrev pub IsFalling : PlanModel → List StartedJob → Type 0
IsFalling plan [] = ⊤
IsFalling plan (s ∷ below) = ComesFirst plan below s.job × IsFalling plan below

-- the ceilings are those of the plan's resources at the core, the current one follows from what is
-- held, and the started jobs are jobs of the core in falling order of key, with room for each
pub record IsStack (plan : PlanModel) (core : ℕ) (ceilings : List ℕ) (items : List Started) (room current : ℕ) : Type 0 where
  pub accepted : IsPlan plan
  pub size : length ceilings ≡ most_resources
  pub told : (g : ℕ) → g < length plan.resources → slice_index_or ceilings g 0 ≡ ceiling_at plan g core
  pub layers : Layers plan core current (layers_of items)
  pub known : AllByRecursion (λ s. Contains (jobs_on plan core) s.job) (started_of items)
  pub falling : IsFalling plan (started_of items)
  pub fits : length (jobs_on plan core) ≤ room

abbrev pub stack_view : Inside → StackModel
stack_view stack = record { plan = stack.plan.now; core = stack.core.0; started = started_of stack.started.items }

abbrev pub IsStackView : Inside → Type 0
IsStackView stack = IsStack stack.plan.now stack.core.0 stack.ceilings stack.started.items (vec_capacity stack.started) stack.ceiling
