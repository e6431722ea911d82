use Rattle.msrp_run.proofs.turns.turn_on.Given as goal

abbrev pub ghosts-turn_through : goal.ghosts-turn_through
ghosts-turn_through a = record { core = a.machine.now.core; first = a.seat }
