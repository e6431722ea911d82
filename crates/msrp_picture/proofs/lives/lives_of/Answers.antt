use Rattle.msrp_plan.proofs.Common.{[]}
use Rattle.msrp_picture.proofs.Common.{task_lives}
use Rattle.msrp_picture.proofs.Growing.{grows-each}
use Rattle.msrp_picture.proofs.lives.lives_of.Goals as goal

pub loop-task-preserved : goal.loop-task-preserved
loop-task-preserved c = grows-each (task_lives c.args.scene.now.plan.now c.args.scene.now.rows.now) c.loop-task.task [] _ _ c.loop-task.invariant c.in_ok-push_lives.ensures
