use Rattle.msrp_plan.proofs.Scheduling.DeadlineOrder.{earliest_deadline_first}
use Rattle.msrp_plan.proofs.laws.scheduling.earliest_deadline_first.Goals as goal

pub returns : goal.returns
returns c = earliest_deadline_first
