use Rattle.msrp_sim.specs.TurnPorts.{call_before}
use Rattle.msrp_sim.proofs.turn_port.turn_by.Given as goal

abbrev pub ghosts-turn_over : goal.ghosts-turn_over
ghosts-turn_over a = record { calls = call_before a.machine.now.core a.machine.now.phase; queues = a.queues.now }
