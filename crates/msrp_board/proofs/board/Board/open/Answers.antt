use Rattle.msrp_board.proofs.ConductorSteps.{conducted_held}
use Rattle.msrp_board.proofs.board.Board.open.Goals as goal

pub invariant_of-seat : goal.invariant_of-seat
invariant_of-seat c = conducted_held _ _ _ _ _ _ c.seat.invariant c.open.ensures.conductor
