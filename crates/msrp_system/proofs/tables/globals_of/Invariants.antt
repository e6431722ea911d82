use Rattle.std.proofs.Common.{◌≡◌}
use Rattle.msrp_plan.proofs.Common.{map, length, range_with_len, vec_capacity, is_global}
use Rattle.msrp_system.proofs.tables.globals_of.Given as goal

abbrev pub invariant-loop-r : goal.invariant-loop-r
invariant-loop-r l = record {
  globals : l.globals.items ≡ map (is_global l.parts) (range_with_len 0 l.r);
  room : vec_capacity l.globals ≡ length l.parts.resources;
}
