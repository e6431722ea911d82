use Rattle.std.proofs.Common.{◌≡◌}
use Rattle.msrp_plan.proofs.Common.{false, take, list_any, is_listed}
use Rattle.msrp_text.proofs.writing.version_of.Given as goal

abbrev pub invariant-loop-task : goal.invariant-loop-task
invariant-loop-task l = list_any (λ task. is_listed task.times) (take l.task l.plan.tasks) ≡ false
