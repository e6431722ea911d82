use Rattle.msrp_plan.proofs.Blocking.Begun.{blocked_by_begun_sections}
use Rattle.msrp_plan.proofs.laws.blocking.blocked_by_begun_sections.Goals as goal

pub returns : goal.returns
returns c = blocked_by_begun_sections
