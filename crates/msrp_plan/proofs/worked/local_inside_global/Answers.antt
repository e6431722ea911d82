use Rattle.std.proofs.Common.{refl}
use Rattle.msrp_plan.proofs.Runs.Verdicts.{good_is_run}
use Rattle.msrp_plan.proofs.worked.local_inside_global.Goals as goal

pub returns : goal.returns
returns c = record {
  run = good_is_run _ _ refl;
  taken_as_global = refl;
  released_before = refl;
  global = refl;
  local = refl;
}
