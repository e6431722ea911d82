use Rattle.msrp_plan.proofs.Scheduling.Released.{runs_released}
use Rattle.msrp_plan.proofs.laws.scheduling.runs_released.Goals as goal

pub returns : goal.returns
returns c = runs_released
