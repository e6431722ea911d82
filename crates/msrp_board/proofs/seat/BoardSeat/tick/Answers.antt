use Rattle.msrp_board.proofs.seat.BoardSeat.tick.Goals as goal

pub returns-clause-value : goal.returns-clause-value
returns-clause-value c k b is = (c.state.ensures.shows k b is).tick
