use Rattle.std.proofs.Common.{◌≡◌}
use Rattle.msrp_plan.proofs.Common.{length, map, take, vec_capacity}
use Rattle.msrp_levels.specs.Footprints.{footprint_of}
use Rattle.msrp_levels.proofs.footprints.footprints_of.Given as goal

abbrev pub invariant-loop-t : goal.invariant-loop-t
invariant-loop-t l = record {
  footprints : l.footprints.items ≡ map (footprint_of l.plan) (take l.t l.plan.tasks);
  room : vec_capacity l.footprints ≡ length l.plan.tasks;
}
