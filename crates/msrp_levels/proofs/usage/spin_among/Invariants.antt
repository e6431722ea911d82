use Rattle.std.proofs.Common.{◌≡◌, ◌≤◌, ◌+◌, ◌*◌}
use Rattle.msrp_plan.proofs.Common.{filter, range_with_len, sum_by}
use Rattle.msrp_levels.specs.Usage.{core_use_at, is_other_user}
use Rattle.msrp_levels.proofs.usage.spin_among.Given as goal

abbrev pub invariant-loop-d : goal.invariant-loop-d
invariant-loop-d l = record {
  spin : l.spin ≡ sum_by (λ d. 1 + (core_use_at l.cores d).section) (filter (is_other_user l.cores l.core.0) (range_with_len 0 l.d));
  bound : l.spin ≤ l.d * 4097;
}
