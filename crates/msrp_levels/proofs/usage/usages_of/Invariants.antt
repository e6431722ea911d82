use Rattle.std.proofs.Common.{◌≡◌}
use Rattle.msrp_plan.proofs.Common.{length, vec_capacity}
use Rattle.msrp_levels.specs.Usage.{AreUsages}
use Rattle.msrp_levels.proofs.usage.usages_of.Given as goal

abbrev pub invariant-loop-r : goal.invariant-loop-r
invariant-loop-r l = record {
  usages : AreUsages l.plan l.r l.usages.items;
  room : vec_capacity l.usages ≡ length l.plan.resources;
}
