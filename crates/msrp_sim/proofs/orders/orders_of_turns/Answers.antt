use Rattle.msrp_plan.proofs.Scheduling.Orders.{ascending_is_order}
use Rattle.msrp_sim.proofs.Rounds.{falling_order, rotating_order}
use Rattle.msrp_sim.proofs.orders.orders_of_turns.Goals as goal

pub returns-clause-asc : goal.returns-clause-asc
returns-clause-asc c = ascending_is_order

pub returns-clause-desc : goal.returns-clause-desc
returns-clause-desc c = falling_order

pub returns-clause-rot : goal.returns-clause-rot
returns-clause-rot c = rotating_order
