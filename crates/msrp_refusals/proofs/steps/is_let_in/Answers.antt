use Rattle.std.proofs.Common.{◌∙◌}
use Rattle.msrp_plan.proofs.Common.{sym}
use Rattle.msrp_board.specs.declared.answers.SeatPhase.TheVariants.{Waiting}
use Rattle.msrp_board.proofs.CoreSeats.{is_in, looked_on}
use Rattle.msrp_refusals.proofs.steps.is_let_in.Goals as goal

pub look-requires-clause-waiting : goal.look-requires-clause-waiting
look-requires-clause-waiting c = is_in _ Waiting c.requires.core (λ k b is. sym c.in-Waiting.is ∙ c.phase.ensures.value k b is)

pub returns : goal.returns
returns c = let e = c.look.ensures in looked_on _ _ _ _ c.requires e.wait e.go e.stopped
