use Rattle.std.proofs.Common.{◌≡◌, ◌++◌, filter}
use Rattle.msrp_plan.proofs.Common.{ℕ, flat_map, range_with_len, is_global}
use Rattle.msrp_picture.proofs.Common.{merged, queue_ticks}
use Rattle.msrp_picture.proofs.drawing.push_queues.Given as goal

abbrev pub invariant-loop-res : goal.invariant-loop-res
invariant-loop-res l = l.blocks.items ≡ l.fn.blocks.items ++ flat_map (λ (g : ℕ). merged (queue_ticks l.fn.scene.plan.now l.fn.scene.rows.now (record { 0 = g }))) (filter (is_global l.fn.scene.plan.now) (range_with_len 0 l.res))
