-- The cause of a fault: what the definitions give of the rows before it.
use Rattle.msrp_plan.specs.Common.{ℕ, List, [], Some, None, length, range_with_len, IsSomeAnd, PlanModel, fault_in, false, true, is_in_turn}
use Rattle.msrp_plan.specs.declared.rows.Row.{Row}
use Rattle.std.specs.Prelude.{◌∷◌, ◌++◌, ◌/◌, ◌≡◌, filter, ◌*◌, ◌<◌}
use Rattle.msrp_audit.specs.Audits.{has_turn}
use Rattle.msrp_core.specs.CoreStates.{IsCoreState}
use Rattle.msrp_sim.specs.Cores.{IsNextRow}
use Rattle.msrp_why.specs.Noted.{AreNoted}
use Rattle.msrp_why.specs.declared.causes.Cause.{Cause}

-- the cores that have their turns in the expected tick still to come
abbrev pub cores_with_turn : PlanModel → List Row → List ℕ
cores_with_turn plan rows = filter (has_turn plan rows) (range_with_len 0 plan.cores)

-- rows are left, and the row is in its turn: it can violate the rules A2 to A5 only
abbrev pub IsInTurn : PlanModel → List Row → Row → Type 0
IsInTurn plan rows r = (length rows < plan.cores * plan.ticks) × (is_in_turn plan rows r ≡ true)

-- why this row is refused after these, which have no fault. In its turn, the expected row is the
-- one legal row of its core after these, with its ahead, and the state is the one in which they
-- leave its core; out of turn, which violates A1, the turns are those still to come
pub record IsCauseAfter (plan : PlanModel) (rows : List Row) (r : Row) (cause : Cause) : Type 0 where
  pub good : fault_in plan rows ≡ None
  pub fault : fault_in plan (rows ++ r ∷ []) ≡ Some cause.fault
  pub row : cause.row ≡ r
  pub expected : IsInTurn plan rows r → IsSomeAnd cause.expected (IsNextRow plan rows r.core.0)
  pub state : IsInTurn plan rows r → IsSomeAnd cause.state (IsCoreState plan r.core.0 (length rows / plan.cores) rows)
  pub turns : length rows < plan.cores * plan.ticks → is_in_turn plan rows r ≡ false → cause.turns.items ≡ cores_with_turn plan rows
  pub notes : AreNoted plan rows cause.notes

-- why one of these rows is refused
pub record IsCauseIn (plan : PlanModel) (rows : List Row) (cause : Cause) : Type 0 where
  pub before : List Row
  pub row : Row
  pub behind : List Row
  pub place : rows ≡ before ++ row ∷ behind
  pub is : IsCauseAfter plan before row cause
