use Rattle.msrp_board.proofs.ViewParts.{splits}
use Rattle.msrp_board.proofs.steps.split_named.Goals as goal

pub split_seat-requires : goal.split_seat-requires
split_seat-requires g c = (c.requires.table, c.requires.words, splits _ _ g.N.Named.number _)
