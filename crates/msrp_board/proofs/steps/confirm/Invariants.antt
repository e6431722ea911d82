use Rattle.msrp_board.proofs.steps.confirm.Given as goal

abbrev pub ghosts-confirm_named : goal.ghosts-confirm_named
ghosts-confirm_named a = record { size = a.size }
