use Rattle.std.proofs.Common.{refl}
use Rattle.msrp_plan.proofs.Runs.Verdicts.{good_is_run}
use Rattle.msrp_plan.proofs.worked.deadline_above_period.Goals as goal

pub returns : goal.returns
returns c = record {
  run = good_is_run _ _ refl;
  next_job_first = refl;
}
