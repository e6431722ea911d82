use Rattle.std.proofs.Common.{◌∙◌}
use Rattle.msrp_plan.proofs.Common.{sym}
use Rattle.msrp_plan.specs.declared.units.Phase.TheVariants.{Holding}
use Rattle.msrp_board.proofs.CoreSeats.{step_on, may_act}
use Rattle.msrp_text_tests.proofs.board.leave.Goals as goal

pub leave-requires-clause-holding : goal.leave-requires-clause-holding
leave-requires-clause-holding g c = (c.in-Holding.field-0, may_act _ (Holding c.in-Holding.field-0) c.requires.1 (λ k b is. sym c.in-Holding.is ∙ c.lock.ensures.value k b is))

pub returns : goal.returns
returns g c = step_on _ _ _ _ (c.leave.ensures.entry c.in-Holding.field-0 (may_act _ (Holding c.in-Holding.field-0) c.requires.1 (λ k b is. sym c.in-Holding.is ∙ c.lock.ensures.value k b is))) c.requires.0
