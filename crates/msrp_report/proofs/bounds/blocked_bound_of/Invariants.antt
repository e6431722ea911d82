use Rattle.std.proofs.Common.{◌≡◌, ◌==◌, ◌&&◌}
use Rattle.msrp_plan.proofs.Common.{map, nat_lt, take, filter, task_at, greatest}
use Rattle.msrp_report.proofs.Common.{out}
use Rattle.msrp_report.proofs.bounds.blocked_bound_of.Given as goal

abbrev pub invariant-loop-other : goal.invariant-loop-other
invariant-loop-other l = l.bound ≡ greatest (map (out l.plan) (filter (λ u. (u.core == (task_at l.plan l.task.0).core) && nat_lt (task_at l.plan l.task.0).deadline u.deadline) (take l.other l.plan.tasks)))
