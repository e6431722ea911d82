use Rattle.msrp_plan.proofs.Blocking.FromRelease.{blocked_since_release}
use Rattle.msrp_plan.proofs.laws.blocking.blocked_since_release.Goals as goal

pub returns : goal.returns
returns c = blocked_since_release
