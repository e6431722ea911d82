use Rattle.std.proofs.Common.{◌≡◌, ◌==◌}
use Rattle.msrp_plan.proofs.Common.{map, take, filter, greatest}
use Rattle.msrp_levels.proofs.usage.top_of.Given as goal

abbrev pub invariant-loop-task : goal.invariant-loop-task
invariant-loop-task l = l.highest ≡ greatest (map (λ f. f.level) (filter (λ f. f.core.0 == l.core.0) (take l.task-index l.tasks)))
