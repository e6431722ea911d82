use Rattle.std.proofs.Common.{◌≡◌}
use Rattle.msrp_plan.proofs.Common.{map, length, vec_capacity, range_with_len}
use Rattle.msrp_levels.specs.Usage.{spin_among}
use Rattle.msrp_levels.proofs.usage.spins_among.Given as goal

abbrev pub invariant-loop-c : goal.invariant-loop-c
invariant-loop-c l = record {
  spins : l.spins.items ≡ map (spin_among l.cores) (range_with_len 0 l.c);
  room : vec_capacity l.spins ≡ length l.cores;
}
