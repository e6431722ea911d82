use Rattle.msrp_plan.specs.Common.{task_at}
use Rattle.msrp_plan.proofs.Building.Scan.{IsScanned}
use Rattle.msrp_plan.proofs.builder.PlanBuilder.nests_global.Given as goal

abbrev pub invariant-loop-place : goal.invariant-loop-place
invariant-loop-place l = IsScanned l.self (task_at l.self l.task).units l.place l.holding
