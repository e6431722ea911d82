use Rattle.std.proofs.Common.{◌≡◌, ◌&&◌}
use Rattle.msrp_plan.proofs.Common.{not, map, take, filter, range_with_len, greatest, is_global, local_ceiling, task_at, holds_after}
use Rattle.msrp_system.proofs.systems.System.highest_local.Given as goal

abbrev pub invariant-loop-r : goal.invariant-loop-r
invariant-loop-r l = l.highest ≡ greatest (map (local_ceiling l.self) (filter (λ g. not (is_global l.self g) && holds_after (take l.step (task_at l.self l.task.0).units) g) (range_with_len 0 l.r)))
