use Rattle.std.proofs.Common.{◌≡◌, ◌⊎◌}
use Rattle.msrp_plan.proofs.Common.{List, ℕ, Ok, Err, Result, IfOk, IfErr, ap, inl, inr, rules}
use Rattle.msrp_faults.specs.declared.faults.CliFault.{CliFault}
use Rattle.msrp_faults.specs.declared.faults.CliFault.TheVariants.{Memory, Read}
use Rattle.msrp_text.specs.Reading.{csv_records, plan_of}
use Rattle.msrp_view_engine.specs.Answers.{plan_found}
use Rattle.msrp_view_engine.specs.declared.words.Words.{Words}
use Rattle.msrp_c.specs.Whys.{AreWords}
use Rattle.msrp_c.proofs.whys.advised.Goals as goal

as_found : (text : List ℕ) (r : Result Words CliFault) → IfOk r (λ words. words.found ≡ plan_found (plan_of (csv_records text))) → IfErr r (λ fault. (fault ≡ Read) ⊎ (fault ≡ Memory)) → AreWords text r
as_found text (Ok words) found faults = inr (inr found)
as_found text (Err fault) found faults = elim faults [
  | inl read ↦ inl (ap (λ e. Err e) read)
  | inr memory ↦ inr (inl (ap (λ e. Err e) memory))
]

pub returns-clause-words : goal.returns-clause-words
returns-clause-words c = as_found c.args.plan.now c.why_of_plan.result (c.why_of_plan.ensures.found c.args.plan.now (search rules)) c.why_of_plan.ensures.faults
