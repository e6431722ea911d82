use Rattle.std.proofs.Common.{refl}
use Rattle.msrp_plan.proofs.Runs.Verdicts.{good_is_run}
use Rattle.msrp_plan.proofs.worked.blocked_head.Goals as goal

pub returns : goal.returns
returns c = record {
  run = good_is_run _ _ refl;
  past_the_head = refl;
  past_the_ceiling = refl;
}
