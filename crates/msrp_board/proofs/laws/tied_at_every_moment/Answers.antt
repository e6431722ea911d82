use Rattle.msrp_board.proofs.Moments.{tied_always}
use Rattle.msrp_board.proofs.laws.tied_at_every_moment.Goals as goal

pub returns : goal.returns
returns c = tied_always
