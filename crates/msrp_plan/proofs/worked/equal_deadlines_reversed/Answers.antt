use Rattle.std.proofs.Common.{refl}
use Rattle.msrp_plan.proofs.Runs.Verdicts.{good_is_run}
use Rattle.msrp_plan.proofs.worked.equal_deadlines_reversed.Goals as goal

pub returns : goal.returns
returns c = record {
  run = good_is_run _ _ refl;
  by_task_number = refl;
}
