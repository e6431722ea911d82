use Rattle.msrp_plan.proofs.Common.{refl}
use Rattle.msrp_merge.proofs.laws.two_resources_in_a_tick.Goals as goal

pub returns : goal.returns
returns c = refl
