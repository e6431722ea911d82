use Rattle.msrp_advice.specs.Warnings.{is_odd}
use Rattle.std.specs.List.{AllPass}
use Rattle.msrp_advice.proofs.warnings.warn_of_resources.Given as goal

abbrev pub invariant-loop-res : goal.invariant-loop-res
invariant-loop-res l = AllPass (is_odd l.plan) l.warnings.items
