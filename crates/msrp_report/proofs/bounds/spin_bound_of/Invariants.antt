use Rattle.std.proofs.Common.{◌≡◌, ◌&&◌}
use Rattle.msrp_plan.proofs.Common.{map, filter, range_with_len, task_at, greatest, uses, is_global, spin_bound}
use Rattle.msrp_report.proofs.bounds.spin_bound_of.Given as goal

abbrev pub invariant-loop-res : goal.invariant-loop-res
invariant-loop-res l = l.bound ≡ greatest (map (λ g. spin_bound l.plan g (task_at l.plan l.task.0).core) (filter (λ g. uses g (task_at l.plan l.task.0) && is_global l.plan g) (range_with_len 0 l.res)))
