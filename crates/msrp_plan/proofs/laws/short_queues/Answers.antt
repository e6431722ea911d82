use Rattle.msrp_plan.proofs.Queues.ShortQueues.{short_queues}
use Rattle.msrp_plan.proofs.laws.short_queues.Goals as goal

pub returns : goal.returns
returns c = short_queues
