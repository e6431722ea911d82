use Rattle.msrp_board.proofs.Seats.{is_seat}
use Rattle.msrp_board.proofs.seat.BoardSeat.conductor.Goals as goal

pub returns-clause-seat : goal.returns-clause-seat
returns-clause-seat c = is_seat _ _ _ _ _ _ c.self.invariant c.self.view_is
