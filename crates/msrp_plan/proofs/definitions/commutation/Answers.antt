use Rattle.msrp_plan.proofs.Runs.Commutation.{commuted}
use Rattle.msrp_plan.proofs.definitions.commutation.Goals as goal

pub returns : goal.returns
returns c = commuted
