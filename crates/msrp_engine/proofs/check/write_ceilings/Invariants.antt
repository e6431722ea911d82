use Rattle.msrp_plan.proofs.Common.{Wrote}
use Rattle.msrp_engine.specs.CheckText.{ceiling_record, told_each}
use Rattle.msrp_engine.proofs.check.write_ceilings.Given as goal

abbrev pub invariant-loop-res : goal.invariant-loop-res
invariant-loop-res g l = Wrote g.W.Write.contents l.fn.out l.out (told_each (ceiling_record l.plan) l.res)
