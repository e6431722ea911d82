use Rattle.msrp_sim.specs.TurnPorts.{call_before}
use Rattle.msrp_audit.specs.Inside.Replies.{is_yes}
use Rattle.msrp_audit.proofs.replies.turn_as.Given as goal

abbrev pub ghosts-turn_over : goal.ghosts-turn_over
ghosts-turn_over a = record { before = call_before a.machine.now.core a.machine.now.phase; yes = is_yes a.row.kind }
