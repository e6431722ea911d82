use Rattle.std.proofs.Common.{◌≡◌}
use Rattle.msrp_plan.proofs.Common.{map, range_with_len, jobs_among}
use Rattle.msrp_ready.proofs.Common.{entry}
use Rattle.msrp_ready.proofs.calendar.jobs_on.Given as goal

abbrev pub invariant-loop-t : goal.invariant-loop-t
invariant-loop-t l = l.jobs.items ≡ map (entry l.plan) (jobs_among l.plan l.core.0 (range_with_len 0 l.t))
