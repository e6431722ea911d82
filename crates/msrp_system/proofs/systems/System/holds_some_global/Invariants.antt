use Rattle.std.proofs.Common.{◌≡◌, ◌&&◌}
use Rattle.msrp_plan.proofs.Common.{false, take, list_any, range_with_len, is_global, task_at, holds_after}
use Rattle.msrp_system.proofs.systems.System.holds_some_global.Given as goal

abbrev pub invariant-loop-r : goal.invariant-loop-r
invariant-loop-r l = list_any (λ g. is_global l.self g && holds_after (take l.step (task_at l.self l.task.0).units) g) (range_with_len 0 l.r) ≡ false
