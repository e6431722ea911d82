-- A handle that an auditor of a kernel's log is put into.
use Rattle.std.proofs.Common.{◌≡◌, ◌⊎◌, ◌∙◌}
use Rattle.msrp_plan.proofs.Common.{ℕ, Bool, true, false, Option, Some, None, Result, Ok, Err, refl, sym, subst}
use mathlib.Core.Bool.{true≢false}
use Rattle.std.specs.Prelude.{IfErr, IfOk, IsOkAnd}
use Rattle.msrp_events.specs.declared.states.Tolerances.{Tolerances}
use Rattle.msrp_faults.specs.declared.faults.CliFault.{CliFault}
use Rattle.msrp_faults.specs.declared.faults.CliFault.TheVariants.{Plan, Trace, Usage, Memory, Threads, Read, Write}
use Rattle.msrp_c.specs.Answers.{Tells, status_told, unfailed}
use Rattle.msrp_c.specs.Feeding.{Finding}
use Rattle.msrp_c.specs.Logs.{IsNewLog, OpensLog}
use Rattle.msrp_c.specs.declared.answers.MsrpFound.{MsrpFound}
use Rattle.msrp_c.specs.declared.content.Content.{Content}
use Rattle.msrp_c.proofs.Lengths.{not-five}

-- a fault has another status than 0
not-good : (fault : CliFault) → status_told (unfailed (Err fault)) ≡ 0 → ⊥
not-good (Plan c n) e = absurd (cc)
not-good (Trace c n) e = absurd (cc)
not-good Usage e = absurd (cc)
not-good Memory e = absurd (cc)
not-good Threads e = absurd (cc)
not-good Read e = absurd (cc)
not-good Write e = absurd (cc)

five : (status : ℕ) → status ≡ 5 → status ≡ 0 → ⊥
five status h e = absurd (cc)

pub long-log : (tolerances : Tolerances) (long : Bool) (held : Option Content) (found : MsrpFound) (status : ℕ) → long ≡ true → held ≡ None → Tells (Err Read) found status → OpensLog tolerances long held found status
long-log tolerances long held found status is none h = record {
  what = Err Read;
  tells = rw is h;
  new = λ good. absurd (five status h.status_is good);
  none = λ _. none;
  too_long = ((λ _. is), (λ _. h.status_is));
}

-- ---- what was made of a short text
new-held : (tolerances : Tolerances) (made : Result Content CliFault) (held : Option Content) → IfOk made (λ content. IsNewLog tolerances (Some content)) → IsOkAnd made (λ content. held ≡ Some content) → IsNewLog tolerances held
new-held tolerances (Ok content) held h is = subst (IsNewLog tolerances) (sym is) h
new-held tolerances (Err fault) held h is = absurd is

new-if : (tolerances : Tolerances) (made : Result Content CliFault) (held : Option Content) (what : Finding) → IfOk made (λ content. IsNewLog tolerances (Some content)) → IfOk what (λ found. (found ≡ Ok tt) × IsOkAnd made (λ content. held ≡ Some content)) → status_told (unfailed what) ≡ 0 → IsNewLog tolerances held
new-if tolerances made held (Ok found) h good e = new-held tolerances made held h good.1
new-if tolerances made held (Err fault) h good e = absurd (not-good fault e)

none-if : (made : Result Content CliFault) (held : Option Content) (what : Finding) → IfOk what (λ found. (found ≡ Ok tt) × IsOkAnd made (λ content. held ≡ Some content)) → IfErr what (λ fault. ((fault ≡ Memory) ⊎ (made ≡ Err fault)) × (held ≡ None)) → (status_told (unfailed what) ≡ 0 → ⊥) → held ≡ None
none-if made held (Ok (Ok good)) is bad n = absurd (n refl)
none-if made held (Ok (Err fault)) is bad n = (let e = is.0 in absurd (cc))
none-if made held (Err fault) is bad n = bad.1

pub short-log : (tolerances : Tolerances) (long : Bool) (made : Result Content CliFault) (held : Option Content) (what : Finding) (found : MsrpFound) (status : ℕ)
    → long ≡ false → IfOk made (λ content. IsNewLog tolerances (Some content)) → IfOk what (λ found. (found ≡ Ok tt) × IsOkAnd made (λ content. held ≡ Some content))
    → IfErr what (λ fault. ((fault ≡ Memory) ⊎ (made ≡ Err fault)) × (held ≡ None)) → Tells (unfailed what) found status → OpensLog tolerances long held found status
short-log tolerances long made held what found status is h good bad told = record {
  what = what;
  tells = rw is told;
  new = λ e. new-if tolerances made held what h good (sym told.status_is ∙ e);
  none = λ n. none-if made held what good bad (λ e. n (told.status_is ∙ e));
  too_long = ((λ e. absurd (not-five what (sym told.status_is ∙ e))), (λ t. absurd (true≢false (sym t ∙ is))));
}
