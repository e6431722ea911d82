use Rattle.msrp_board.proofs.Start.{begins_at}
use Rattle.msrp_board.proofs.Seats.{first_is_seat, first_made}
use Rattle.msrp_board.proofs.board.Board.new.Goals as goal

pub of_words-requires : goal.of_words-requires
of_words-requires c = begins_at _ (record { cores = (c.if-cores-lt1.false, c.if-cores-gt-MOST_CORES.false); resources = c.if-resources-gt-MOST_RESOURCES.false; ticks = (c.if-ticks-lt1.false, c.if-ticks-gt-MOST_TICKS.false) })

pub invariant_of-seat : goal.invariant_of-seat
invariant_of-seat c = first_is_seat record { cores = c.args.cores; resources = c.args.resources; ticks = c.args.ticks } _ _ (record { cores = (c.if-cores-lt1.false, c.if-cores-gt-MOST_CORES.false); resources = c.if-resources-gt-MOST_RESOURCES.false; ticks = (c.if-ticks-lt1.false, c.if-ticks-gt-MOST_TICKS.false) }) c.in_ok-states.ensures c.in_ok-table.ensures.4

pub returns-clause-seat : goal.returns-clause-seat
returns-clause-seat c = first_made _ _ _ _ c.in_ok-table.ensures.2 c.in_ok-table.ensures.4
