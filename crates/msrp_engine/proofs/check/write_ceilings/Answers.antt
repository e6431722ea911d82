use Rattle.msrp_engine.specs.CheckText.{ceiling_record}
use Rattle.msrp_engine.proofs.CheckRecords.{wrote-told}
use Rattle.msrp_engine.proofs.check.write_ceilings.Goals as goal

pub loop-res-preserved : goal.loop-res-preserved
loop-res-preserved g c = wrote-told _ _ _ _ (ceiling_record c.args.plan.now) c.loop-res.res c.loop-res.invariant c.write_ceiling.ensures
