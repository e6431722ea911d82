use Rattle.std.proofs.Common.{◌≡◌}
use Rattle.msrp_plan.proofs.Common.{task_at}
use Rattle.msrp_levels.specs.Footprints.{uses_from}
use Rattle.msrp_levels.proofs.footprints.uses_of.Given as goal

abbrev pub invariant-loop-place : goal.invariant-loop-place
invariant-loop-place l = l.uses ≡ uses_from (task_at l.plan l.task.0).units l.place
