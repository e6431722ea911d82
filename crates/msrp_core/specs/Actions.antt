-- What a turn does, and the row that says so.
use Rattle.std.specs.Prelude.{◌≡◌}
use Rattle.msrp_plan.specs.Common.{ℕ, Option}
use Rattle.msrp_core.specs.Common.{CoreId, JobId, Row}
use Rattle.msrp_core.specs.declared.actions.Action.{Action}

-- the row of a turn of this tick, core and job in which this is done
pub record IsRowOf (tick : ℕ) (core : CoreId) (job : Option JobId) (action : Action) (r : Row) : Type 0 where
  pub tick_is : r.tick ≡ tick
  pub core_is : r.core ≡ core
  pub job_is : r.job ≡ job
  pub kind_is : r.kind ≡ action.kind
  pub res_is : r.res ≡ action.res
  pub ahead_is : r.ahead ≡ action.ahead

-- rows of this action have the property, in any tick
abbrev pub EachRowOf : CoreId → Option JobId → Action → (ℕ → Row → Type 0) → Type 0
EachRowOf core job action P = (tick : ℕ) (r : Row) → IsRowOf tick core job action r → P tick r
