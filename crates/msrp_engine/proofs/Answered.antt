-- What holds of what was made holds of what is answered.
use Rattle.std.proofs.Common.{◌≡◌}
use Rattle.msrp_plan.proofs.Common.{subst, sym, inl, inr, Ok, PlanModel}
use Rattle.std.specs.declared.result.Result.{Result}
use Rattle.msrp_text.specs.Reading.{Answers}
use Rattle.msrp_text.specs.declared.reading.TextError.{TextError}
use Rattle.msrp_engine.specs.Answered.{OrUnread}
use Rattle.msrp_faults.specs.declared.faults.CliFault.{CliFault}

-- whatever answers the plan that was read answers the text that it was read from
pub from_plan : (Q : Result PlanModel TextError → Type 0) (plan : PlanModel) (expected : Result PlanModel TextError) → Answers (Ok plan) expected → Q (Ok plan) → Q expected
from_plan Q plan expected answers h = elim answers [
  | inl e ↦ absurd (cc)
  | inr k ↦ elim k [
    | inl e ↦ absurd (cc)
    | inr e ↦ subst Q e h
  ]
]

-- and so does what was made of it and then settled
pub settled_from_plan : {A : Type 0} (Holds : Result PlanModel TextError → Result A CliFault → Type 0) (plan : PlanModel) (expected : Result PlanModel TextError) (made answer : Result A CliFault)
    → Answers (Ok plan) expected → OrUnread answer (answer ≡ made) → OrUnread made (Holds (Ok plan) made) → OrUnread answer (Holds expected answer)
settled_from_plan Holds plan expected made answer read same holds = elim same [
  | inl e ↦ inl e
  | inr k ↦ elim k [
    | inl e ↦ inr (inl e)
    | inr e ↦ subst (λ x. OrUnread x (Holds expected x)) (sym e) (from_plan (λ r. OrUnread made (Holds r made)) plan expected read holds)
  ]
]
