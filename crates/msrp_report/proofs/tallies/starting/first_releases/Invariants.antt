use Rattle.std.proofs.Common.{◌≡◌, ◌≤◌}
use Rattle.msrp_plan.proofs.Common.{length, map, vec_capacity, All, range_with_len}
use Rattle.msrp_report.proofs.Common.{release_or_end}
use Rattle.msrp_report.proofs.Releases.{task_of}
use Rattle.msrp_report.proofs.tallies.starting.first_releases.Given as goal

abbrev pub invariant-loop-task : goal.invariant-loop-task
invariant-loop-task l = record {
  size : length l.releases.items ≡ l.task;
  room : length l.plan.tasks ≤ vec_capacity l.releases;
  once : map task_of l.releases.items ≡ range_with_len 0 l.task;
  own : All (λ r. r.tick ≡ release_or_end l.plan r.task.0 0) l.releases.items;
}
