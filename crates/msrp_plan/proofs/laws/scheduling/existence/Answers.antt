use Rattle.msrp_plan.proofs.Scheduling.NextRow.{next_row}
use Rattle.msrp_plan.proofs.Scheduling.Orders.{one_run, ascending_is_order, order_of_run}
use Rattle.msrp_plan.proofs.laws.scheduling.existence.Goals as goal

pub returns : goal.returns
returns c = record { next = λ plan pre core ok start due. next_row plan pre core ok start.each due; run = one_run; rising = ascending_is_order; order = order_of_run }
