use Rattle.std.proofs.Common.{refl}
use Rattle.msrp_plan.proofs.Runs.Verdicts.{good_is_run}
use Rattle.msrp_plan.proofs.worked.work_then_idle.Goals as goal

pub returns : goal.returns
returns c = record {
  run = good_is_run _ _ refl;
  too_long = refl;
  too_late = refl;
}
