use Rattle.std.proofs.Common.{◌≡◌}
use Rattle.msrp_plan.proofs.Common.{map, vec_capacity, range_with_len, top}
use Rattle.msrp_levels.proofs.usage.tops_of.Given as goal

abbrev pub invariant-loop-c : goal.invariant-loop-c
invariant-loop-c l = record {
  tops : l.tops.items ≡ map (top l.plan) (range_with_len 0 l.c);
  room : vec_capacity l.tops ≡ l.plan.cores;
}
