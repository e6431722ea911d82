use Rattle.msrp_board.proofs.steps.split.Given as goal

abbrev pub ghosts-split_named : goal.ghosts-split_named
ghosts-split_named a = record { number = a.core }
