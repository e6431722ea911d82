use Rattle.std.proofs.Common.{◌≡◌}
use Rattle.msrp_plan.proofs.Common.{take, vec_capacity}
use Rattle.msrp_stack.proofs.stack.copied_jobs.Given as goal

abbrev pub invariant-loop-one : goal.invariant-loop-one
invariant-loop-one l = (l.copy.items ≡ take l.one-index l.jobs) × (vec_capacity l.copy ≡ l.room)
