use Rattle.msrp_board.proofs.SeatParts.{only_tie, none_tie, alone_is_seat, without_is_seat, alone_seen, without_seen}
use Rattle.msrp_board.proofs.board.Board.split.Goals as goal

pub invariant_of-own : goal.invariant_of-own
invariant_of-own c = alone_is_seat _ _ _ _ _ _ _ c.seat.invariant c.split-rest.ensures.parts.0 (only_tie _ _ _ _ c.part-own.ensures.own c.seat.invariant.states)

pub invariant_of-others : goal.invariant_of-others
invariant_of-others c = without_is_seat _ _ _ _ _ c.seat.inside.table_seat.me _ c.seat.invariant c.split-rest.ensures.parts.1 (none_tie _ _ _ _ c.part-own.ensures.others c.seat.invariant.states)

pub returns-clause-core : goal.returns-clause-core
returns-clause-core c = alone_seen _ _ _ _ c.seat.inside.table_seat.me _ _ c.split-rest.ensures.tables.0 c.split-rest.ensures.parts.0 c.seat.view_is

pub returns-clause-rest : goal.returns-clause-rest
returns-clause-rest c = without_seen _ _ _ _ c.seat.inside.table_seat.me _ _ c.split-rest.ensures.tables.1 c.split-rest.ensures.parts.1 c.seat.view_is
