use Rattle.std.proofs.Common.{◌&&◌, ◌<◌, ◌∙◌}
use Rattle.msrp_plan.proofs.Common.{length, sym, take, arith, is_global, task_at, resources, holds_after, any_in}
use Rattle.msrp_plan.proofs.Lists.AnyAll.{in_range}
use Rattle.msrp_system.proofs.GatheredTasks.{any_range_none}
use Rattle.msrp_system.proofs.systems.System.holds_some_global.Goals as goal

pub returns-then-holds_global : goal.returns-then-holds_global
returns-then-holds_global c =
    let system = c.args.self.now in
    let below : c.loop-r.r < length system.resources = omega (arith, c.loop-r-test.true, c.resources-r-end.ensures.value) in
    sym (any_in (λ g. is_global system g && holds_after (take c.args.step (task_at system c.args.task.0).units) g) (resources system) c.loop-r.r (in_range c.loop-r.r (length system.resources) below) (sym c.holds_global.ensures ∙ c.if-holds_global.true))

pub loop-r-preserved : goal.loop-r-preserved
loop-r-preserved c =
    let system = c.args.self.now in
    any_range_none (λ g. is_global system g && holds_after (take c.args.step (task_at system c.args.task.0).units) g) c.loop-r.r c.loop-r.invariant (sym c.holds_global.ensures ∙ c.if-holds_global.false)
