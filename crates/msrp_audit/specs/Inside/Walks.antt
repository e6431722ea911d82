-- What a piece of an audit knows as it passes over the rows.
use Rattle.std.specs.Prelude.{◌≡◌, ◌<◌}
use Rattle.msrp_plan.specs.Common.{ℕ, List, length, slice_index_or, PlanModel, log_of}
use Rattle.msrp_plan.specs.declared.rows.Row.{Row}

-- the tick of each core's next turn after these rows: the core had one turn in each tick before it
abbrev pub AreNextTurns : PlanModel → List ℕ → List Row → Type 0
AreNextTurns plan ticks rows = (c : ℕ) → c < plan.cores → slice_index_or ticks c 0 ≡ length (log_of c rows)
