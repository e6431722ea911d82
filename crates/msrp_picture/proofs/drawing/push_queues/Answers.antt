use Rattle.msrp_plan.proofs.Common.{arith, common_steps}
use Rattle.msrp_picture.proofs.Growing.{grows-some}
use Rattle.msrp_picture.proofs.drawing.push_queues.Goals as goal

pub loop-res-preserved : goal.loop-res-preserved
loop-res-preserved c = grows-some _ _ c.loop-res.res c.args.blocks.now.items c.loop-res.blocks.items c.if-is_global.blocks.items c.loop-res.invariant (grind (arith, common_steps))
