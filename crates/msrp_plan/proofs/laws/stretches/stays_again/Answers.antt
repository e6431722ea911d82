use Rattle.msrp_plan.proofs.Scheduling.Stretches.{stays_again}
use Rattle.msrp_plan.proofs.laws.stretches.stays_again.Goals as goal

pub returns : goal.returns
returns c = stays_again
