use Rattle.msrp_plan.proofs.Spinning.SpinBound.{bounded_spinning}
use Rattle.msrp_plan.proofs.laws.bounded_spinning.Goals as goal

pub returns : goal.returns
returns c = bounded_spinning
