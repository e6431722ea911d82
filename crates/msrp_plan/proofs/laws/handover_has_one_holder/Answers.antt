use Rattle.msrp_plan.specs.Common.{take, drop, MutualExclusion}
use Rattle.msrp_plan.specs.declared.ids.JobId.{JobId}
use Rattle.std.proofs.Common.{◌≢◌, refl, ap, arith}
use Rattle.msrp_plan.specs.Examples.HandoverWithinATick.{plan, rows, taken_when_held}
use Rattle.msrp_plan.specs.Examples.Notation.{job}
use Rattle.msrp_plan.proofs.Runs.Verdicts.{good_is_run}
use Rattle.msrp_plan.proofs.Building.AcceptedPlans.{accepted_plan}
use Rattle.msrp_plan.proofs.Runs.KeptLaws.{keeps_laws}
use Rattle.msrp_plan.proofs.laws.handover_has_one_holder.Goals as goal

two : job 0 0 ≢ job 1 0
two e = let n = ap (λ (i : JobId). i.task.0) e in absurd (omega (arith, n))

-- a and b would both hold it after the second row
two_holders : ¬ MutualExclusion plan taken_when_held
two_holders h = two (h (take 2 taken_when_held) (drop 2 taken_when_held) 0 refl (job 0 0) (job 1 0) refl refl)

pub returns : goal.returns
returns c = record { laws = keeps_laws plan rows (accepted_plan plan refl refl refl) (good_is_run _ _ refl); first = refl; second = refl; taken_when_held = two_holders }
