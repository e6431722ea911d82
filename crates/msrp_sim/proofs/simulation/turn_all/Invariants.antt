use Rattle.std.proofs.Common.{◌≡◌, ◌≤◌}
use Rattle.std.specs.Vec.{vec_capacity}
use Rattle.msrp_sim.specs.Simulated.{HasMade}
use Rattle.msrp_sim.proofs.simulation.turn_all.Given as goal

abbrev pub invariant-loop-turn : goal.invariant-loop-turn
invariant-loop-turn l =
    (l.simulation.plan ≡ l.fn.simulation.plan)
    × (l.simulation.order ≡ l.fn.simulation.order)
    × (l.simulation.turn ≡ l._turn)
    × HasMade l.simulation l.rows.items
    × (l.fn.size ≤ vec_capacity l.rows)
