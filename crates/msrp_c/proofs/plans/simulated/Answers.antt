use Rattle.std.proofs.Common.{◌≡◌, ◌⊎◌, ◌∙◌}
use Rattle.msrp_plan.proofs.Common.{ℕ, List, Option, Some, None, Err, ap, inl, inr, subst, sym, PlanModel}
use Rattle.msrp_plan.specs.declared.rows.TextVersion.{TextVersion}
use Rattle.std.specs.declared.result.Result.{Result}
use Rattle.msrp_faults.specs.declared.faults.CliFault.{CliFault}
use Rattle.msrp_faults.specs.declared.faults.CliFault.TheVariants.{Memory, Usage}
use Rattle.msrp_text.specs.Reading.{csv_records, plan_of}
use Rattle.msrp_text.specs.declared.reading.TextError.{TextError}
use Rattle.msrp_c.specs.Numbers.{turns_named, version_named}
use Rattle.msrp_c.specs.Texts.{IsSimulated}
use Rattle.msrp_c.proofs.plans.simulated.Goals as goal

-- why there is no order
unordered : (named : Option TextVersion) (version : TextVersion) (order : ℕ) (cores : List ℕ) (expected : Result PlanModel TextError) (fault : CliFault) → named ≡ Some version
    → ((fault ≡ Memory) × (order ≡ 3)) ⊎ ((fault ≡ Usage) × (turns_named order cores ≡ None)) → IsSimulated named (turns_named order cores) expected (Err fault)
unordered named version order cores expected fault is why = subst (λ o. IsSimulated o (turns_named order cores) expected (Err fault)) (sym is) (elim why [
  | inl memory ↦ subst (λ n. IsSimulated (Some version) (turns_named n cores) expected (Err fault)) (sym memory.1) (inr (inl memory.0))
  | inr usage ↦ subst (λ t. IsSimulated (Some version) t expected (Err fault)) (sym usage.1) (ap (λ f. Err f) usage.0)
])

pub returns-in-Err : goal.returns-in-Err
returns-in-Err c = unordered (version_named c.args.version) c.in-Some.version c.args.order c.args.cores.now (plan_of (csv_records c.args.plan.now)) c.in-Err.fault (sym c.version_of.ensures ∙ c.in-Some.is) c.in-Err.ensures.unnamed
