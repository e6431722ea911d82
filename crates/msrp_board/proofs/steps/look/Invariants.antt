use Rattle.msrp_board.proofs.steps.look.Given as goal

abbrev pub ghosts-look_named : goal.ghosts-look_named
ghosts-look_named a = record { number = a.cores }
