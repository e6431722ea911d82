use Rattle.std.proofs.Common.{◌++◌}
use Rattle.msrp_plan.proofs.Common.{ℕ, List, take}
use Rattle.msrp_picture.proofs.Common.{HasTaken, Row}
use Rattle.msrp_picture.proofs.lanes.take_all.Given as goal

abbrev pub invariant-loop-row : goal.invariant-loop-row
invariant-loop-row l = (g : ℕ) (before : List Row) → HasTaken l.fn.requests g before → HasTaken l.requests g (before ++ take l.row-index l.rows)
