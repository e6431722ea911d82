-- The steps on a resource, among the turns of all cores, and its history on the board.
use Rattle.std.specs.Prelude.{◌≡◌, ◌&&◌}
use Rattle.msrp_plan.specs.Common.{ℕ, List, Bool, true, filter, PlanModel, is_global, Legal, is_on}
use Rattle.msrp_merge.specs.Common.{Event, Row, Turn, calls}
use Rattle.msrp_merge.specs.Pairs.{Paired}
use Rattle.msrp_merge.specs.Turns.{has_place, is_step, IsRowOf, IsTurnOf}

-- the turn is a step on resource g
abbrev pub is_step_on : ℕ → Turn → Bool
is_step_on g x = has_place x && is_on g x.row.res

-- the turn is that of an event: of its core, and of its entry
pub record IsTurnOfEvent (x : Turn) (s : Event) : Type 0 where
  pub core : x.row.core.0 ≡ s.0
  pub step : IsTurnOf x s.1

-- the row is a step on resource g
abbrev pub is_row_on : ℕ → Row → Bool
is_row_on g r = is_step r.kind && is_on g r.res

-- the row is that of an event: of its core, and of its entry
pub record IsRowOfEvent (r : Row) (s : Event) : Type 0 where
  pub core : r.core.0 ≡ s.0
  pub step : IsRowOf s.1 r

-- each global resource's steps are, in order, a history with a first-in-first-out lock's answers
abbrev pub AreServed : PlanModel → List Row → Type 0
AreServed plan rows = (g : ℕ) → is_global plan g ≡ true → (h : List Event) × Paired IsRowOfEvent (filter (is_row_on g) rows) h × Legal (calls h)
