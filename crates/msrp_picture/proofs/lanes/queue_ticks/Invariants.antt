use Rattle.std.proofs.Common.{◌≡◌, ◌+◌, ◌*◌}
use Rattle.msrp_plan.proofs.Common.{ℕ, take, flat_map, range_with_len, fifo}
use Rattle.msrp_picture.proofs.Common.{HasTaken, first_of}
use Rattle.msrp_picture.proofs.lanes.queue_ticks.Given as goal

abbrev pub invariant-loop-tick : goal.invariant-loop-tick
invariant-loop-tick l = record {
  taken : HasTaken l.requests l.fn.res.0 (take (l.tick * l.fn.scene.plan.now.cores) l.fn.scene.rows.now);
  ticks : l.ticks.items ≡ flat_map (λ (t : ℕ). first_of l.fn.res t (fifo l.fn.res.0 (take ((t + 1) * l.fn.scene.plan.now.cores) l.fn.scene.rows.now))) (range_with_len 0 l.tick);
}
