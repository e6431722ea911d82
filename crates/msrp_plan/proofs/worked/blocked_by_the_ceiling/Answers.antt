use Rattle.std.proofs.Common.{refl}
use Rattle.msrp_plan.proofs.Runs.Verdicts.{good_is_run}
use Rattle.msrp_plan.proofs.worked.blocked_by_the_ceiling.Goals as goal

pub returns : goal.returns
returns c = record {
  run = good_is_run _ _ refl;
  past_the_ceiling = refl;
  level_lo = refl;
  level_hi = refl;
  ceiling_r = refl;
  top = refl;
  local = refl;
}
