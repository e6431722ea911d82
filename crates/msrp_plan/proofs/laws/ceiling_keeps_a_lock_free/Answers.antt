use Rattle.msrp_plan.specs.Common.{take, drop, MutualExclusion}
use Rattle.msrp_plan.specs.declared.ids.JobId.{JobId}
use Rattle.std.proofs.Common.{◌≢◌, refl, ap, arith}
use Rattle.std.proofs.Math.Bool.{true≢false}
use Rattle.msrp_plan.specs.Examples.BlockedByTheCeiling.{plan, rows, past_the_ceiling}
use Rattle.msrp_plan.specs.Examples.Notation.{job}
use Rattle.msrp_plan.specs.Laws.{NoLocalBlocking}
use Rattle.msrp_plan.proofs.Jobs.JobTests.{some_is}
use Rattle.msrp_plan.proofs.Runs.Verdicts.{good_is_run}
use Rattle.msrp_plan.proofs.Building.AcceptedPlans.{accepted_plan}
use Rattle.msrp_plan.proofs.Runs.KeptLaws.{keeps_laws}
use Rattle.msrp_plan.proofs.laws.ceiling_keeps_a_lock_free.Goals as goal

two : job 1 0 ≢ job 0 0
two e = let n = ap (λ (i : JobId). i.task.0) e in absurd (omega (arith, n))

-- hi would lock in the second row what lo holds
finds_it_held : ¬ NoLocalBlocking plan past_the_ceiling
finds_it_held h = true≢false (h.1.0 (record { 0 = 0 }) (job 0 0) refl refl (λ e. two (some_is (job 1 0) (job 0 0) e)))

-- after which both hold it
both_hold_it : ¬ MutualExclusion plan past_the_ceiling
both_hold_it h = two (h (take 2 past_the_ceiling) (drop 2 past_the_ceiling) 0 refl (job 1 0) (job 0 0) refl refl)

pub returns : goal.returns
returns c = record { laws = keeps_laws plan rows (accepted_plan plan refl refl refl) (good_is_run _ _ refl); held = refl; free = refl; past_the_ceiling = finds_it_held; two_holders = both_hold_it }
