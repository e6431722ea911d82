use Rattle.std.proofs.Common.{◌≡◌, ◌++◌}
use Rattle.msrp_plan.proofs.Common.{map, range_with_len}
use Rattle.msrp_ready.proofs.Common.{entry, job_at}
use Rattle.msrp_ready.proofs.calendar.push_jobs.Given as goal

abbrev pub invariant-loop-k : goal.invariant-loop-k
invariant-loop-k l = l.jobs.items ≡ l.fn.jobs.items ++ map (λ n. entry l.plan (job_at l.task.0 n)) (range_with_len 0 l.k)
