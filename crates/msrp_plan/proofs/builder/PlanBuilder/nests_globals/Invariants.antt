use Rattle.std.proofs.Common.{◌≡◌}
use Rattle.msrp_plan.specs.Common.{false, take, list_any, nests_global}
use Rattle.msrp_plan.proofs.builder.PlanBuilder.nests_globals.Given as goal

abbrev pub invariant-loop-task : goal.invariant-loop-task
invariant-loop-task l = list_any (λ task. nests_global l.self task.units) (take l.task l.self.tasks) ≡ false
