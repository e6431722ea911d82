use Rattle.std.proofs.Common.{◌∙◌}
use Rattle.msrp_plan.proofs.Common.{ap}
use Rattle.msrp_board.proofs.Told.{phase_shown}
use Rattle.msrp_board.proofs.Common.{SeatModel, phase_in}
use Rattle.msrp_board.proofs.seat.BoardSeat.phase.Goals as goal

pub returns-clause-value : goal.returns-clause-value
returns-clause-value c k b is = c.phase.ensures ∙ phase_shown _ b _ (c.state.ensures.shows k b is) ∙ ap (λ (s : SeatModel). phase_in s.board.size.ticks b) c.self.view_is
