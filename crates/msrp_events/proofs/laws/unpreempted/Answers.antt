use Rattle.msrp_events.proofs.Preemption.{unpreempted}
use Rattle.msrp_events.proofs.laws.unpreempted.Goals as goal

pub returns : goal.returns
returns c = unpreempted
