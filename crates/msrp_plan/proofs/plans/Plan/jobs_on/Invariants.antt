use Rattle.std.proofs.Common.{◌≡◌, ◌≤◌, ◌*◌, ◌^◌}
use Rattle.msrp_plan.specs.Common.{length, range_with_len}
use Rattle.msrp_plan.proofs.Jobs.JobLists.{jobs_among}
use Rattle.msrp_plan.proofs.plans.Plan.jobs_on.Given as goal

abbrev pub invariant-loop-t : goal.invariant-loop-t
invariant-loop-t l = record {
  count : l.jobs ≡ length (jobs_among l.self l.core.0 (range_with_len 0 l.t));
  few : l.jobs ≤ l.t * 2 ^ 32;
}
