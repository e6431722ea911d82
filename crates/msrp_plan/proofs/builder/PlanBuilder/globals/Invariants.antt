use Rattle.msrp_plan.proofs.Levels.GlobalUse.{IsMarkedTo}
use Rattle.msrp_plan.proofs.builder.PlanBuilder.globals.Given as goal

abbrev pub invariant-loop-res : goal.invariant-loop-res
invariant-loop-res l = IsMarkedTo l.self l.globals l.res
