use Rattle.std.proofs.Common.{refl}
use Rattle.msrp_plan.proofs.Runs.Verdicts.{good_is_run}
use Rattle.msrp_plan.proofs.worked.preempts_a_section.Goals as goal

pub returns : goal.returns
returns c = record {
  run = good_is_run _ _ refl;
  without_preemption = refl;
  ceiling_r = refl;
}
