use Rattle.msrp_plan.proofs.Common.{refl}
use Rattle.msrp_merge.proofs.Handover.{logs_fit, served, paired, not_paired}
use Rattle.msrp_merge.proofs.laws.handover.Goals as goal

pub returns : goal.returns
returns c = record { logs = logs_fit; history = served; rows = refl; paired = paired; earlier = not_paired }
