use Rattle.msrp_board.proofs.Unique.{history_unique}
use Rattle.msrp_board.proofs.laws.history_is_unique.Goals as goal

pub returns : goal.returns
returns c = history_unique
