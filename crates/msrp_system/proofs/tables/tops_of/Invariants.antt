use Rattle.std.proofs.Common.{◌≡◌}
use Rattle.msrp_plan.proofs.Common.{map, range_with_len, vec_capacity, top}
use Rattle.msrp_system.proofs.tables.tops_of.Given as goal

abbrev pub invariant-loop-c : goal.invariant-loop-c
invariant-loop-c l = record {
  tops : l.tops.items ≡ map (top l.parts) (range_with_len 0 l.c);
  room : vec_capacity l.tops ≡ l.parts.cores;
}
