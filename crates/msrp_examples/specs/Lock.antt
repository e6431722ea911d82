-- Machines that can continue over one lock.
use Rattle.std.specs.Prelude.{◌≡◌, ◌≤◌, ◌+◌}
use Rattle.msrp_plan.specs.Common.{List, length}
use Rattle.msrp_plan.specs.declared.rows.Row.{Row}
use Rattle.msrp_core.specs.Machine.{MachineModel, StandsAfter}
use Rattle.msrp_core.specs.Ports.{claim_in}
use Rattle.msrp_sim.specs.Served.{FifoModel, as_port}

-- the machine stands after some log; the lock knows what its core holds or awaits, has room for a
-- call in each remaining tick, and has the plan's resources
pub record CanGoOn (m : MachineModel) (port : FifoModel) : Type 0 where
  pub log : List Row
  pub stands : StandsAfter m log
  pub claim : claim_in m.core port.calls ≡ m.phase
  pub room : m.plan.ticks ≤ m.tick + (as_port port).rooms m.core
  pub resources : port.resources ≡ length m.plan.resources
