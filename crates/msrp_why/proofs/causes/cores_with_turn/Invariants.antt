use Rattle.msrp_plan.proofs.Common.{List, None, length, range_with_len}
use Rattle.msrp_why.proofs.Common.{HasFed, Row, has_turn}
use Rattle.std.proofs.Common.{◌≡◌, ◌<◌, ◌≤◌, ◌*◌, filter}
use Rattle.msrp_why.proofs.causes.cores_with_turn.Given as goal

abbrev pub invariant-loop-core : goal.invariant-loop-core
invariant-loop-core l =
    (length l.found.items ≤ l.core)
    × ((rows : List Row) → HasFed l.auditor rows → l.auditor.fault ≡ None → length rows < l.plan.cores * l.plan.ticks → l.found.items ≡ filter (has_turn l.plan rows) (range_with_len 0 l.core))
