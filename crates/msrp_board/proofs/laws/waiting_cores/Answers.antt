use Rattle.msrp_board.proofs.CoreSeats.{not_acted, empty_at_start, waiting_book}
use Rattle.msrp_board.proofs.laws.waiting_cores.Goals as goal

pub returns-clause-acted : goal.returns-clause-acted
returns-clause-acted c size b kept stands = not_acted size b kept (waiting_book size.ticks b stands).1

pub returns-clause-entries : goal.returns-clause-entries
returns-clause-entries c size b kept stands start = empty_at_start size b kept (waiting_book size.ticks b stands).1 start
