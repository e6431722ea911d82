use Rattle.std.proofs.Common.{◌≡◌, ◌≤◌, ◌*◌, ◌==◌}
use Rattle.msrp_plan.proofs.Common.{filter, range_with_len, sum_by, task_at}
use Rattle.msrp_advice.specs.Warnings.{units_of}
use Rattle.msrp_advice.proofs.warnings.core_units.Given as goal

abbrev pub invariant-loop-task : goal.invariant-loop-task
invariant-loop-task l = (l.sum ≡ sum_by (units_of l.plan) (filter (λ t. (task_at l.plan t).core == l.core.0) (range_with_len 0 l.task))) × (l.sum ≤ l.task * 18446744073709551616)
