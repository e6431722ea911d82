use Rattle.std.proofs.Common.{◌≡◌, ◌≤◌}
use Rattle.msrp_plan.proofs.Common.{ℕ, [], Some, length, slice_get, vec_capacity}
use Rattle.msrp_report.proofs.Common.{IsTaskTally, TaskTally}
use Rattle.msrp_report.proofs.tallies.Tallies.with_room.Given as goal

abbrev pub invariant-loop-task : goal.invariant-loop-task
invariant-loop-task l = record {
  size : length l.tasks.items ≡ l.task;
  room : length l.plan.tasks ≤ vec_capacity l.tasks;
  each : (k : ℕ) (x : TaskTally) → slice_get l.tasks.items k ≡ Some x → IsTaskTally l.plan [] 0 k x;
}
