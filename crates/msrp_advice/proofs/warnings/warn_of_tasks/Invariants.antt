use Rattle.msrp_advice.specs.Warnings.{is_odd}
use Rattle.std.specs.List.{AllPass}
use Rattle.msrp_advice.proofs.warnings.warn_of_tasks.Given as goal

abbrev pub invariant-loop-task : goal.invariant-loop-task
invariant-loop-task l = AllPass (is_odd l.plan) l.warnings.items
