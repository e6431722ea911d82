use Rattle.msrp_board.proofs.CoreSeats.{step_on}
use Rattle.msrp_text_tests.proofs.board.arrive.Goals as goal

pub returns : goal.returns
returns g c = step_on _ _ _ _ c.arrive.ensures c.requires
