use Rattle.msrp_engine.specs.CheckText.{top_record}
use Rattle.msrp_engine.proofs.CheckRecords.{wrote-told}
use Rattle.msrp_engine.proofs.check.write_tops.Goals as goal

pub loop-core-preserved : goal.loop-core-preserved
loop-core-preserved g c = wrote-told _ _ _ _ (top_record c.args.plan.now) c.loop-core.core c.loop-core.invariant (rw c.requires at c.write_top.ensures)
