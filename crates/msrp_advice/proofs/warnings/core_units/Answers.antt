use Rattle.std.proofs.Common.{◌∙◌, ◌+◌, ◌<◌, ◌==◌}
use Rattle.msrp_plan.proofs.Common.{ℕ, Bool, rules, ap, arith, filter, range_with_len, sum_by, sym, task_at}
use Rattle.msrp_levels.proofs.Gathered.{sum_more_range}
use Rattle.msrp_advice.specs.Warnings.{units_of}
use Rattle.msrp_advice.proofs.warnings.core_units.Goals as goal

pub loop-task-preserved : goal.loop-task-preserved
loop-task-preserved c =
    let plan = c.args.plan.now in
    let on : ℕ → Bool = λ t. (task_at plan t).core == c.args.core.0 in
    let told = c.from-sum.ensures in
    let small : c.units_of.result < 18446744073709551616 = search rules in
    let before = sum_by (units_of plan) (filter on (range_with_len 0 c.loop-task.task)) in
    let sum = ap (λ s. s + c.from-sum.result) c.loop-task.invariant.0 ∙ (ap (λ n. before + n) (told ∙ c.units_of.ensures) ∙ sym (sum_more_range (units_of plan) on c.loop-task.task)) in
    (sum, omega (arith, c.loop-task.invariant.1, small, told))
