use Rattle.msrp_plan.proofs.Blocking.Bound.{bounded_sections}
use Rattle.msrp_plan.proofs.laws.blocking.bounded_sections.Goals as goal

pub returns : goal.returns
returns c = bounded_sections
