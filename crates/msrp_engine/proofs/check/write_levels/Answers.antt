use Rattle.msrp_engine.specs.CheckText.{level_record}
use Rattle.msrp_engine.proofs.CheckRecords.{wrote-told}
use Rattle.msrp_engine.proofs.check.write_levels.Goals as goal

pub loop-task-preserved : goal.loop-task-preserved
loop-task-preserved g c = wrote-told _ _ _ _ (level_record c.args.plan.now) c.loop-task.task c.loop-task.invariant c.write_level.ensures
