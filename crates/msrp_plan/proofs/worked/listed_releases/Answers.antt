use Rattle.std.proofs.Common.{refl}
use Rattle.msrp_plan.proofs.Runs.Verdicts.{good_is_run}
use Rattle.msrp_plan.proofs.worked.listed_releases.Goals as goal

pub returns : goal.returns
returns c = record {
  run = good_is_run _ _ refl;
  late_release = good_is_run _ _ refl;
  too_early = refl;
  third_job = refl;
  late_job = refl;
}
