-- The number that a plan has for a name.
use Rattle.std.specs.Prelude.{◌≡◌, ◌↔◌}
use Rattle.msrp_plan.specs.Common.{ℕ, Bool, Option, Some, None, true, false, Ok, Err, IfOk, IfErr, Result, PlanModel}
use Rattle.msrp_engine.specs.Answered.{OrUnread}
use Rattle.msrp_faults.specs.Outcomes.{fault_of}
use Rattle.msrp_faults.specs.declared.faults.CliFault.{CliFault}
use Rattle.msrp_faults.specs.declared.faults.CliFault.TheVariants.{Usage}
use Rattle.msrp_text.specs.declared.reading.TextError.{TextError}
use Rattle.msrp_c.specs.Answers.{Tells, told_as}
use Rattle.msrp_c.specs.Feeding.{Finding}
use Rattle.msrp_c.specs.declared.answers.MsrpFound.{MsrpFound}

-- a number, or wrong use where there is none
abbrev pub or_usage : Option ℕ → Result ℕ CliFault
or_usage (Some number) = Ok number
or_usage None = Err Usage

-- the number that the plan has, or why the plan is refused
abbrev pub number_in : (PlanModel → Option ℕ) → Result PlanModel TextError → Result ℕ CliFault
number_in number (Ok plan) = or_usage (number plan)
number_in number (Err error) = Err (fault_of error)

-- nothing is wrong with a number
abbrev pub found_with : Result ℕ CliFault → Finding
found_with (Ok number) = Ok (Ok tt)
found_with (Err fault) = Err fault

-- the number is written, and nothing is wrong; or nothing is written, and this is why
pub record TellsNumber (what : Result ℕ CliFault) (old new : ℕ) (found : MsrpFound) (status : ℕ) : Type 0 where
  pub number : IfOk what (λ number. new ≡ number)
  pub kept : IfErr what (λ fault. new ≡ old)
  pub tells : Tells (found_with what) found status

-- the expected number is answered, with status 5 exactly if the plan's text is too long
pub record AnswersNumber (long : Bool) (expected : Result ℕ CliFault) (old new : ℕ) (found : MsrpFound) (status : ℕ) : Type 0 where
  pub what : Result ℕ CliFault
  pub is : long ≡ false → OrUnread what (what ≡ expected)
  pub tells : TellsNumber (told_as long what) old new found status
  pub too_long : (status ≡ 5) ↔ (long ≡ true)
