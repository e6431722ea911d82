use Rattle.msrp_advice.specs.Warnings.{is_odd}
use Rattle.std.specs.List.{AllPass}
use Rattle.msrp_advice.proofs.warnings.warn_of_cores.Given as goal

abbrev pub invariant-loop-core : goal.invariant-loop-core
invariant-loop-core l = AllPass (is_odd l.plan) l.warnings.items
