use Rattle.msrp_plan.proofs.Blocking.OneSection.{blocked_by_one_section}
use Rattle.msrp_plan.proofs.laws.blocking.blocked_by_one_section.Goals as goal

pub returns : goal.returns
returns c = blocked_by_one_section
