use Rattle.std.proofs.Common.{◌≡◌, ◌≤◌}
use Rattle.msrp_plan.proofs.Common.{ℕ, Some, length, slice_get, vec_capacity}
use Rattle.msrp_report.proofs.Common.{JobTally}
use Rattle.msrp_report.proofs.Starting.{untold}
use Rattle.msrp_report.proofs.tallies.starting.untold.Given as goal

abbrev pub invariant-loop : goal.invariant-loop
invariant-loop l = record {
  size : length l.jobs.items ≡ l.counter;
  room : l.count ≤ vec_capacity l.jobs;
  each : (k : ℕ) (s : JobTally) → slice_get l.jobs.items k ≡ Some s → s ≡ untold;
}
