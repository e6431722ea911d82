use Rattle.msrp_plan.proofs.Scheduling.Conservation.{work_conservation}
use Rattle.msrp_plan.proofs.laws.scheduling.work_conservation.Goals as goal

pub returns : goal.returns
returns c = work_conservation
