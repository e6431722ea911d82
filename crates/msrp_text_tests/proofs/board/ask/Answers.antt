use Rattle.std.proofs.Common.{◌∙◌}
use Rattle.msrp_plan.proofs.Common.{sym}
use Rattle.msrp_plan.specs.declared.units.Phase.TheVariants.{Free}
use Rattle.msrp_board.proofs.CoreSeats.{step_on, may_act}
use Rattle.msrp_text_tests.proofs.board.ask.Goals as goal

pub ask-requires-clause-free : goal.ask-requires-clause-free
ask-requires-clause-free g c = may_act _ Free c.requires.seat.1 (λ k b is. sym c.in-Free.is ∙ c.lock.ensures.value k b is)

pub returns : goal.returns
returns g c = step_on _ _ _ _ c.ask.ensures.entry c.requires.seat.0
