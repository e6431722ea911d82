use Rattle.msrp_plan.proofs.Common.{refl}
use Rattle.msrp_c.proofs.Streaming.{none-fed}
use Rattle.msrp_c.proofs.held.FedAuditor.new.Goals as goal

pub returns : goal.returns
returns c = none-fed c.args.loaded.plan.now _ c.in_ok-auditor.ensures.plan c.in_ok-auditor.ensures.fed refl refl
