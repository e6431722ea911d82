use Rattle.std.proofs.Common.{◌∙◌}
use Rattle.msrp_plan.proofs.Common.{sym}
use Rattle.msrp_board.specs.declared.answers.SeatPhase.TheVariants.{Waiting}
use Rattle.msrp_board.proofs.CoreSeats.{is_in, looked_on, fresh_after_go}
use Rattle.msrp_text_tests.proofs.board.look.Goals as goal

pub look-requires-clause-waiting : goal.look-requires-clause-waiting
look-requires-clause-waiting g c = is_in _ Waiting c.requires.core (λ k b is. sym c.in-Waiting.is ∙ c.phase.ensures.value k b is)

pub returns-clause-seat : goal.returns-clause-seat
returns-clause-seat g c = let e = c.look.ensures in looked_on _ _ _ _ c.requires e.wait e.go e.stopped

pub returns-clause-fresh : goal.returns-clause-fresh
returns-clause-fresh g c e = fresh_after_go _ _ c.phase.ensures.seat (is_in _ Waiting c.requires.core (λ k b is. sym c.in-Waiting.is ∙ c.phase.ensures.value k b is)) (c.look.ensures.go e)
