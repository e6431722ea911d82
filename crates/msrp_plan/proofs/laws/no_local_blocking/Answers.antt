use Rattle.msrp_plan.proofs.Holding.LocalLocks.{no_local_blocking}
use Rattle.msrp_plan.proofs.laws.no_local_blocking.Goals as goal

pub returns : goal.returns
returns c = no_local_blocking
