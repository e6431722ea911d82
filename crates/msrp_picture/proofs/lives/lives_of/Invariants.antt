use Rattle.std.proofs.Common.{◌≡◌}
use Rattle.msrp_plan.proofs.Common.{flat_map, range_with_len}
use Rattle.msrp_picture.proofs.Common.{task_lives}
use Rattle.msrp_picture.proofs.lives.lives_of.Given as goal

abbrev pub invariant-loop-task : goal.invariant-loop-task
invariant-loop-task l = l.lives.items ≡ flat_map (task_lives l.fn.scene.plan.now l.fn.scene.rows.now) (range_with_len 0 l.task)
