use Rattle.msrp_sim.specs.TurnCounts.{AreCounted}
use Rattle.msrp_sim.proofs.orders.are_turns.Given as goal

abbrev pub invariant-loop-turn : goal.invariant-loop-turn
invariant-loop-turn l = AreCounted l.fn.plan l.fn.cores l.turn l.turns
