use Rattle.msrp_plan.proofs.Queues.Overtaking.{bounded_overtaking}
use Rattle.msrp_plan.proofs.laws.bounded_overtaking.Goals as goal

pub returns : goal.returns
returns c = bounded_overtaking
