-- What a clause sees of a simulation, and what its fields hold.
use Rattle.std.specs.Prelude.{◌<◌, ◌≤◌, ◌+◌, ◌*◌}
use Rattle.msrp_plan.specs.Common.{List, IsOrder, IsPlan}
use Rattle.msrp_plan.specs.declared.rows.Row.{Row}
use Rattle.msrp_sim.specs.Orders.{cores_of}
use Rattle.msrp_sim.specs.Simulated.{SimModel, HasMade}
use Rattle.msrp_sim.specs.declared.simulation.Simulation.TheInside.{Inside}

abbrev pub sim_view : Inside → SimModel
sim_view s = record { plan = s.plan.now; order = cores_of s.order.now s.plan.now; turn = s.at.tick * s.plan.now.cores + s.at.place; cores = s.cores }

-- some rows led here, in an order of the plan
pub record IsSimView (s : Inside) : Type 0 where
  pub accepted : IsPlan s.plan.now
  pub order : IsOrder s.plan.now (cores_of s.order.now s.plan.now)
  pub turns : s.at.tick * s.plan.now.cores + s.at.place ≤ s.plan.now.cores * s.plan.now.ticks
  pub place : s.at.place < s.plan.now.cores
  pub rows : List Row
  pub made : HasMade (sim_view s) rows
