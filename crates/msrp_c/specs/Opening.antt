-- What is made of a plan, and put into a handle.
use Rattle.std.specs.Prelude.{◌≡◌, ◌↔◌}
use Rattle.msrp_plan.specs.Common.{ℕ, Bool, Option, Some, None, true, false, Result, PlanModel, Ok, Err}
use Rattle.msrp_engine.specs.Answered.{OrUnread}
use Rattle.msrp_faults.specs.Outcomes.{fault_of}
use Rattle.msrp_faults.specs.declared.faults.CliFault.{CliFault}
use Rattle.msrp_faults.specs.declared.faults.CliFault.TheVariants.{Usage}
use Rattle.msrp_text.specs.declared.reading.TextError.{TextError}
use Rattle.msrp_c.specs.Answers.{Tells, told_as}
use Rattle.msrp_c.specs.Feeding.{Finding}
use Rattle.msrp_c.specs.declared.answers.MsrpFound.{MsrpFound}
use Rattle.msrp_c.specs.declared.content.Content.{Content}

-- the plan is accepted, and this is new of it; or this is why there is none
abbrev pub IsOpened : (PlanModel → Option Content → Type 0) → Result PlanModel TextError → Result Content CliFault → Type 0
IsOpened IsNew (Ok plan) (Ok content) = IsNew plan (Some content)
IsOpened IsNew (Err error) (Err fault) = fault ≡ fault_of error
IsOpened IsNew (Ok plan) (Err fault) = ⊥
IsOpened IsNew (Err error) (Ok content) = ⊥

-- what the handle holds is new of the accepted plan; or this is why it holds nothing
abbrev pub IsHeld : (PlanModel → Option Content → Type 0) → Result PlanModel TextError → Option Content → Finding → Type 0
IsHeld IsNew (Ok plan) held (Ok found) = IsNew plan held × (found ≡ Ok tt)
IsHeld IsNew (Err error) held (Err fault) = fault ≡ fault_of error
IsHeld IsNew (Ok plan) held (Err fault) = ⊥
IsHeld IsNew (Err error) held (Ok found) = ⊥

-- ---- a handle
-- wrong use is reported, and changes nothing
pub record IsMisuse (old new : Option Content) (found : MsrpFound) (status : ℕ) : Type 0 where
  pub same : new ≡ old
  pub tells : Tells (Err Usage) found status

-- a handle that held nothing holds what is new of the plan, with status 5 exactly if the plan's
-- text is too long; it holds nothing if the status isn't 0
pub record OpensNew (IsNew : PlanModel → Option Content → Type 0) (long : Bool) (expected : Result PlanModel TextError) (held : Option Content) (found : MsrpFound) (status : ℕ) : Type 0 where
  pub what : Finding
  pub is : long ≡ false → OrUnread what (IsHeld IsNew expected held what)
  pub tells : Tells (told_as long what) found status
  pub none : (status ≡ 0 → ⊥) → held ≡ None
  pub too_long : (status ≡ 5) ↔ (long ≡ true)

-- what a call puts into a handle: it is wrong use if the handle held something
abbrev pub Opens : (PlanModel → Option Content → Type 0) → Bool → Result PlanModel TextError → Option Content → Option Content → MsrpFound → ℕ → Type 0
Opens IsNew long expected None new found status = OpensNew IsNew long expected new found status
Opens IsNew long expected (Some used) new found status = IsMisuse (Some used) new found status
