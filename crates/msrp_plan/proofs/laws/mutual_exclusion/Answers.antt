use Rattle.msrp_plan.proofs.Holding.Exclusion.{mutual_exclusion}
use Rattle.msrp_plan.proofs.laws.mutual_exclusion.Goals as goal

pub returns : goal.returns
returns c = mutual_exclusion
