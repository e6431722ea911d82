use Rattle.std.proofs.Common.{◌≡◌, ◌≤◌}
use Rattle.msrp_plan.proofs.Common.{ℕ, [], Some, length, slice_get, vec_capacity}
use Rattle.msrp_report.proofs.Common.{AreActiveOf, CoreJobs}
use Rattle.msrp_report.proofs.tallies.active.none_active.Given as goal

abbrev pub invariant-loop : goal.invariant-loop
invariant-loop l = record {
  size : length l.active.items ≡ l.counter;
  room : l.plan.cores ≤ vec_capacity l.active;
  each : (c : ℕ) (x : CoreJobs) → slice_get l.active.items c ≡ Some x → AreActiveOf l.plan [] c x;
}
