use Rattle.msrp_plan.proofs.Blocking.Bound.{bounded_blocking}
use Rattle.msrp_plan.proofs.laws.blocking.bounded_blocking.Goals as goal

pub returns : goal.returns
returns c = bounded_blocking
