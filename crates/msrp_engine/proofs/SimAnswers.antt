-- What a plan is answered is what its text is answered.
use Rattle.std.proofs.Common.{◌≡◌}
use Rattle.msrp_plan.proofs.Common.{ℕ, List, Option, OnOk, refl, Ok, Err, PlanModel}
use Rattle.msrp_plan.specs.declared.bytes.Sink.{Sink}
use Rattle.msrp_plan.specs.declared.rows.TextVersion.{TextVersion}
use Rattle.std.specs.declared.result.Result.{Result}
use Rattle.msrp_sim.specs.declared.orders.Order.{Order}
use Rattle.msrp_sim.specs.Orders.{cores_of}
use Rattle.msrp_text.specs.Reading.{Answers}
use Rattle.msrp_text.specs.declared.reading.TextError.{TextError}
use Rattle.msrp_engine.specs.Simulation.{SimAnswers, SimAnswersPlan}
use Rattle.msrp_engine.proofs.Answered.{from_plan}
use Rattle.msrp_faults.specs.declared.faults.CliFault.{CliFault}

pub sim_from_plan : {W : Type 0} (contents : W → Option (List ℕ)) (version : TextVersion) (order : Order) (plan : PlanModel) (expected : Result PlanModel TextError) (old new : Sink W) (result : Result ℕ CliFault)
    → Answers (Ok plan) expected → SimAnswersPlan contents version plan (cores_of order plan) old new result → SimAnswers contents version order expected old new result
sim_from_plan contents version order plan expected old new result answers h = from_plan (λ x. SimAnswers contents version order x old new result) plan expected answers h

-- a status that was answered
pub on_status : {T E : Type 0} (r : Result T E) (P : Type 0) → ((v : T) → r ≡ Ok v → P) → OnOk r P
on_status (Ok v) P h = h v refl
on_status (Err e) P h = tt
