use Rattle.msrp_plan.proofs.Common.{task_at}
use Rattle.msrp_levels.proofs.OutermostRows.{IsPassed}
use Rattle.msrp_levels.proofs.outermost.out_of.Given as goal

abbrev pub invariant-loop-place : goal.invariant-loop-place
invariant-loop-place l = IsPassed l.plan (task_at l.plan l.task.0) l.place l.held l.rows l.last l.longest
