use Rattle.msrp_board.proofs.CoreSeats.{alone_on}
use Rattle.msrp_refusals.proofs.steps.parted.Goals as goal

pub returns-clause-own : goal.returns-clause-own
returns-clause-own c = alone_on c.args.seat _ _ _ c.split.ensures.core c.requires (c.has_book-has_book.ensures.value.0 c.if-not-has_book.false)
