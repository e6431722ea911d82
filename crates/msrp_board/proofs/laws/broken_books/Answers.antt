use Rattle.msrp_board.proofs.BrokenBoards.{too_late, not_declared, placed_once, not_asked}
use Rattle.msrp_board.proofs.laws.broken_books.Goals as goal

pub returns : goal.returns
returns c = record { late = too_late; undeclared = not_declared; same_place = placed_once; unasked = not_asked }
