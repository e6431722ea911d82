use Rattle.std.proofs.Common.{◌≡◌, ◌++◌}
use Rattle.msrp_plan.proofs.Common.{map, range_with_len, job_at}
use Rattle.msrp_picture.proofs.Common.{life_of}
use Rattle.msrp_picture.proofs.lives.push_lives.Given as goal

abbrev pub invariant-loop-k : goal.invariant-loop-k
invariant-loop-k l = l.lives.items ≡ l.fn.lives.items ++ map (life_of l.fn.scene.plan.now l.fn.scene.rows.now) (map (job_at l.fn.task.0) (range_with_len 0 l.k))
