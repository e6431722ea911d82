-- What goes into a handle, and what is told of it.
use Rattle.std.proofs.Common.{◌≡◌, ◌⊎◌, ◌∙◌}
use Rattle.msrp_plan.proofs.Common.{ℕ, Bool, true, false, Option, Some, None, Result, Ok, Err, refl, sym, subst, inl, inr}
use mathlib.Core.Bool.{true≢false}
use Rattle.std.specs.Option.{is_some}
use Rattle.std.specs.Prelude.{⊤, IfErr, IfOk, IsOkAnd}
use Rattle.msrp_engine.proofs.Answered.{from_plan}
use Rattle.msrp_engine.specs.Answered.{OrUnread}
use Rattle.msrp_faults.specs.declared.faults.CliFault.{CliFault}
use Rattle.msrp_faults.specs.declared.faults.CliFault.TheVariants.{Memory, Read, Usage}
use Rattle.msrp_plan.specs.Plan.{PlanModel}
use Rattle.msrp_plan.specs.declared.faults.Fault.{Fault}
use Rattle.msrp_text.specs.Reading.{Answers}
use Rattle.msrp_text.specs.declared.reading.TextError.{TextError}
use Rattle.msrp_c.specs.Answers.{Tells, status_told, unfailed}
use Rattle.msrp_c.specs.Feeding.{Finding}
use Rattle.msrp_c.specs.Loading.{IsLoaded}
use Rattle.msrp_c.specs.Opening.{IsHeld, IsOpened, Opens}
use Rattle.msrp_c.specs.declared.answers.MsrpFound.{MsrpFound}
use Rattle.msrp_c.specs.declared.content.Content.{Content}
use Rattle.msrp_c.specs.declared.held.Loaded.{Loaded}
use Rattle.msrp_c.proofs.Lengths.{not-five}

abbrev pub New : Type 1
New = PlanModel → Option Content → Type 0

-- ---- a plan that is loaded
pub loaded-by : (plan : PlanModel) (expected : Result PlanModel TextError) (loaded : Loaded) → Answers (Ok plan) expected → loaded.plan.now ≡ plan → OrUnread (Ok loaded) (IsLoaded expected (Ok loaded))
loaded-by plan expected loaded read is = inr (inr (from_plan (λ x. IsLoaded x (Ok loaded)) plan expected read is))

-- what was made of the plan is held
new-held : (N : New) (expected : Result PlanModel TextError) (content : Content) (held : Option Content) → held ≡ Some content → IsOpened N expected (Ok content) → IsHeld N expected held (Ok (Ok tt))
new-held N (Ok plan) content held is h = (subst (N plan) (sym is) h, refl)
new-held N (Err error) content held is h = h

fault-held : (N : New) (expected : Result PlanModel TextError) (fault : CliFault) (held : Option Content) → IsOpened N expected (Err fault) → IsHeld N expected held (Err fault)
fault-held N (Ok plan) fault held h = h
fault-held N (Err error) fault held h = h

pub opened-held : (N : New) (expected : Result PlanModel TextError) (made : Result Content CliFault) (held : Option Content) (what : Finding) → OrUnread made (IsOpened N expected made) → IfOk what (λ found. (found ≡ Ok tt) × IsOkAnd made (λ content. held ≡ Some content))
    → IfErr what (λ fault. ((fault ≡ Memory) ⊎ (made ≡ Err fault)) × (held ≡ None)) → OrUnread what (IsHeld N expected held what)
opened-held N expected (Ok content) held (Ok found) opened good bad = elim opened [
  | inl e ↦ absurd (cc)
  | inr k ↦ elim k [
    | inl e ↦ absurd (cc)
    | inr h ↦ inr (inr (subst (λ f. IsHeld N expected held (Ok f)) (sym good.0) (new-held N expected content held good.1 h)))
  ]
]
opened-held N expected (Err fault) held (Ok found) opened good bad = absurd good.1
opened-held N expected (Ok content) held (Err fault) opened good bad = elim bad.0 [
  | inl memory ↦ inr (inl (λ i. Err (memory i)))
  | inr e ↦ absurd (cc)
]
opened-held N expected (Err why) held (Err fault) opened good bad = elim bad.0 [
  | inl memory ↦ inr (inl (λ i. Err (memory i)))
  | inr e ↦ (let same : why ≡ fault = cc in elim opened [
    | inl read ↦ inl (let is : fault ≡ Read = cc in λ i. Err (is i))
    | inr k ↦ elim k [
      | inl memory ↦ inr (inl (let is : fault ≡ Memory = cc in λ i. Err (is i)))
      | inr h ↦ inr (inr (subst (λ f. IsHeld N expected held (Err f)) same (fault-held N expected why held h)))
    ]
  ])
]

pub and-none : (P : CliFault → Type 0) (held : Option Content) (what : Finding) → IfErr what (λ fault. P fault × (held ≡ None)) → IfErr what (λ _. held ≡ None)
and-none P held (Ok found) h = h
and-none P held (Err fault) h = h.1

-- ---- what is told
pub used-opens : (N : New) (long : Bool) (expected : Result PlanModel TextError) (old new : Option Content) (found : MsrpFound) (status : ℕ) → is_some old ≡ true → new ≡ old → Tells (Err Usage) found status → Opens N long expected old new found status
used-opens N long expected (Some used) new found status is same h = record { same = same; tells = h }
used-opens N long expected None new found status is same h = absurd (cc)

pub long-opens : (N : New) (long : Bool) (expected : Result PlanModel TextError) (old new : Option Content) (found : MsrpFound) (status : ℕ) → is_some old ≡ false → long ≡ true → new ≡ old → Tells (Err Read) found status → Opens N long expected old new found status
long-opens N long expected (Some used) new found status free is same h = absurd (cc)
long-opens N long expected None new found status free is same h = record {
  what = Err Read;
  is = λ short. absurd (true≢false (sym is ∙ short));
  tells = rw is h;
  none = λ _. same;
  too_long = ((λ _. is), (λ _. h.status_is));
}

-- a status that isn't 0 is told of a fault
none-held : (N : New) (expected : Result PlanModel TextError) (held : Option Content) (what : Finding) (status : ℕ) → OrUnread what (IsHeld N expected held what) → IfErr what (λ _. held ≡ None) → status ≡ status_told (unfailed what) → (status ≡ 0 → ⊥) → held ≡ None
none-held N expected held (Err fault) status h none is some = none
none-held N expected held (Ok (Ok good)) status h none is some = absurd (some is)
none-held N (Ok plan) held (Ok (Err fault)) status h none is some = elim h [
  | inl e ↦ absurd (cc)
  | inr k ↦ elim k [
    | inl e ↦ absurd (cc)
    | inr holds ↦ (let e = holds.1 in absurd (cc))
  ]
]
none-held N (Err error) held (Ok (Err fault)) status h none is some = elim h [
  | inl e ↦ absurd (cc)
  | inr k ↦ elim k [
    | inl e ↦ absurd (cc)
    | inr holds ↦ absurd holds
  ]
]

short-opens : (N : New) (long : Bool) (expected : Result PlanModel TextError) (old new : Option Content) (what : Result (Result ⊤ Fault) CliFault) (found : MsrpFound) (status : ℕ)
    → is_some old ≡ false → long ≡ false → OrUnread what (IsHeld N expected new what) → IfErr what (λ _. new ≡ None) → Tells (unfailed what) found status → Opens N long expected old new found status
short-opens N long expected (Some used) new what found status free is good none h = absurd (cc)
short-opens N long expected None new what found status free is good none h = record {
  what = what;
  is = λ _. good;
  tells = rw is h;
  none = none-held N expected new what status good none h.status_is;
  too_long = ((λ e. absurd (not-five what (sym h.status_is ∙ e))), (λ t. absurd (true≢false (sym t ∙ is))));
}

-- what was made of a short text goes into a handle that held nothing
pub new-opens : (N : New) (long : Bool) (expected : Result PlanModel TextError) (old new : Option Content) (made : Result Content CliFault) (what : Finding) (found : MsrpFound) (status : ℕ)
    → is_some old ≡ false → long ≡ false → OrUnread made (IsOpened N expected made) → IfOk what (λ found. (found ≡ Ok tt) × IsOkAnd made (λ content. new ≡ Some content))
    → IfErr what (λ fault. ((fault ≡ Memory) ⊎ (made ≡ Err fault)) × (new ≡ None)) → Tells (unfailed what) found status → Opens N long expected old new found status
new-opens N long expected old new made what found status free is opened good bad h =
    short-opens N long expected old new what found status free is (opened-held N expected made new what opened good bad) (and-none (λ fault. (fault ≡ Memory) ⊎ (made ≡ Err fault)) new what bad) h

pub unused-none : (x : Option Content) → is_some x ≡ false → x ≡ None
unused-none None e = refl
unused-none (Some used) e = absurd (cc)
