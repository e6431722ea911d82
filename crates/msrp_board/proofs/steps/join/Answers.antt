use Rattle.msrp_board.proofs.ViewParts.{joins}
use Rattle.msrp_board.proofs.steps.join.Goals as goal

pub join_seat-requires : goal.join_seat-requires
join_seat-requires c = (c.requires.table.0, c.requires.table.1, c.requires.table.2, c.requires.words, joins _ _ _ _ _)
