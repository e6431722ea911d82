use Rattle.msrp_plan.proofs.Common.{Wrote}
use Rattle.msrp_engine.specs.CheckText.{level_record, told_each}
use Rattle.msrp_engine.proofs.check.write_levels.Given as goal

abbrev pub invariant-loop-task : goal.invariant-loop-task
invariant-loop-task g l = Wrote g.W.Write.contents l.fn.out l.out (told_each (level_record l.plan) l.task)
