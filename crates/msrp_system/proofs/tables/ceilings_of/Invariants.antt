use Rattle.std.proofs.Common.{◌≡◌}
use Rattle.msrp_plan.proofs.Common.{map, length, range_with_len, vec_capacity, local_ceiling}
use Rattle.msrp_system.proofs.tables.ceilings_of.Given as goal

abbrev pub invariant-loop-r : goal.invariant-loop-r
invariant-loop-r l = record {
  ceilings : l.ceilings.items ≡ map (local_ceiling l.parts) (range_with_len 0 l.r);
  room : vec_capacity l.ceilings ≡ length l.parts.resources;
}
