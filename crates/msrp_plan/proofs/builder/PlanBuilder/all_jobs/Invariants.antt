use Rattle.std.proofs.Common.{◌≡◌, ◌≤◌, ◌*◌}
use Rattle.msrp_plan.specs.Common.{length, flat_map, range_with_len, jobs_of}
use Rattle.msrp_plan.proofs.builder.PlanBuilder.all_jobs.Given as goal

abbrev pub invariant-loop-task : goal.invariant-loop-task
invariant-loop-task l = record {
  sum : l.count ≡ length (flat_map (jobs_of l.self) (range_with_len 0 l.task));
  bound : l.count ≤ 20000 * l.task;
}
