use Rattle.std.proofs.Common.{refl}
use Rattle.msrp_plan.specs.Examples.ThreeInAQueue.{plan, rows}
use Rattle.msrp_plan.proofs.Runs.Verdicts.{good_is_run}
use Rattle.msrp_plan.proofs.Building.AcceptedPlans.{accepted_plan}
use Rattle.msrp_plan.proofs.Runs.KeptLaws.{keeps_laws}
use Rattle.msrp_plan.proofs.laws.every_other_core_ahead.Goals as goal

pub returns : goal.returns
returns c = record { laws = keeps_laws plan rows (accepted_plan plan refl refl refl) (good_is_run _ _ refl); ahead = refl; wait = record { job = refl; resource = refl; joins = refl; waits = refl }; place = refl; others = refl }
