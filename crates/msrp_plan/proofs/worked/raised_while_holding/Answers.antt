use Rattle.std.proofs.Common.{refl}
use Rattle.msrp_plan.proofs.Runs.Verdicts.{good_is_run}
use Rattle.msrp_plan.proofs.worked.raised_while_holding.Goals as goal

pub returns : goal.returns
returns c = record {
  run = good_is_run _ _ refl;
  holder_preempted = refl;
  locked_as_local = refl;
  level_lo = refl;
  level_hi = refl;
  level_other = refl;
  global = refl;
  top_0 = refl;
  top_1 = refl;
}
