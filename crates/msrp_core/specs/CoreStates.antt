-- What decides which job of a core runs, by the definitions.
use Rattle.std.specs.Prelude.{◌≡◌, ◌<◌}
use Rattle.msrp_plan.specs.Common.{ℕ, List, ForSome, IsSomeAnd, None, Option, PlanModel, length, log_of}
use Rattle.msrp_core.specs.Common.{Row}
use Rattle.msrp_plan.specs.Ceiling as ceilings
use Rattle.msrp_plan.specs.Choice as choices
use Rattle.msrp_plan.specs.Jobs as jobs
use Rattle.msrp_core.specs.declared.states.CoreState.{CoreState}

-- after these rows, in tick t: the running job and its units done, the head, and the ceiling
pub record IsCoreState (plan : PlanModel) (c t : ℕ) (rows : List Row) (s : CoreState) : Type 0 where
  pub running : s.running ≡ choices.running plan c rows
  pub head : s.head ≡ choices.head plan c t rows
  pub ceiling : s.ceiling ≡ ceilings.ceiling plan c rows
  pub done : ForSome s.running (λ j. s.done ≡ jobs.done j rows)
  pub none : s.running ≡ None → s.done ≡ 0

-- the state in which these rows leave a core of the plan
abbrev pub IsStateAfter : PlanModel → List Row → ℕ → Option CoreState → Type 0
IsStateAfter plan rows c state = c < plan.cores → IsSomeAnd state (IsCoreState plan c (length (log_of c rows)) rows)
