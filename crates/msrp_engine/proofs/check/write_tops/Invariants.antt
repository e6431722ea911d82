use Rattle.msrp_plan.proofs.Common.{Wrote}
use Rattle.msrp_engine.specs.CheckText.{top_record, told_each}
use Rattle.msrp_engine.proofs.check.write_tops.Given as goal

abbrev pub invariant-loop-core : goal.invariant-loop-core
invariant-loop-core g l = Wrote g.W.Write.contents l.fn.out l.out (told_each (top_record l.plan) l.core)
