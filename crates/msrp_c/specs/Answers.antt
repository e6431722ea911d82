-- The result of a call: its status, its numbers, and a text in the caller's buffer.
use Rattle.std.specs.Prelude.{◌≡◌, ◌↔◌, ◌<◌, ◌≤◌, ◌++◌}
use Rattle.msrp_plan.specs.Common.{ℕ, Bool, true, false, nat_le, List, [], length, drop, ⊤, Result, Ok, Err}
use Rattle.msrp_plan.specs.declared.faults.Fault.{Fault}
use Rattle.msrp_plan.specs.declared.faults.Rule.{Rule}
use Rattle.msrp_plan.specs.declared.faults.Rule.TheVariants.{A1, A2, A3, A4, A5, A6, A7}
use Rattle.msrp_engine.specs.Answered.{OrUnread}
use Rattle.msrp_engine.specs.AuditText.{verdict_status}
use Rattle.msrp_engine.specs.MadeTexts.{found_in}
use Rattle.msrp_faults.specs.Outcomes.{status_of}
use Rattle.msrp_faults.specs.declared.faults.CliFault.{CliFault}
use Rattle.msrp_faults.specs.declared.faults.CliFault.TheVariants.{Plan, Trace, Memory, Read, Write}
use Rattle.msrp_engine.specs.declared.made.Made.{Made}
use Rattle.msrp_plan.specs.Limits.{most_bytes}
use Rattle.msrp_c.specs.declared.answers.MsrpFound.{MsrpFound}

-- the number after A of a rule's code
abbrev pub rule_number : Rule → ℕ
rule_number A1 = 1
rule_number A2 = 2
rule_number A3 = 3
rule_number A4 = 4
rule_number A5 = 5
rule_number A6 = 6
rule_number A7 = 7

-- the exit status of a result
abbrev pub status_told : Result (Result ⊤ Fault) CliFault → ℕ
status_told (Ok found) = verdict_status found
status_told (Err fault) = status_of (Err fault)

-- the numbers of no result
abbrev pub nothing : MsrpFound
nothing = record { row = 0; rule = 0; plan_code = 0; trace_code = 0; number = 0 }

-- the numbers of a fault, of a refusal, and of anything else
abbrev pub numbers_of : Result (Result ⊤ Fault) CliFault → MsrpFound
numbers_of (Ok (Ok good)) = nothing
numbers_of (Ok (Err fault)) = record nothing { row = fault.row; rule = rule_number fault.rule }
numbers_of (Err (Plan code number)) = record nothing { plan_code = code; number = number }
numbers_of (Err (Trace code number)) = record nothing { trace_code = code; number = number }
numbers_of (Err _) = nothing

-- the numbers and the status are the result's
pub record Tells (what : Result (Result ⊤ Fault) CliFault) (found : MsrpFound) (status : ℕ) : Type 0 where
  pub numbers : found ≡ numbers_of what
  pub status_is : status ≡ status_told what

-- ---- texts that are too long
-- a text has more bytes than can be read
abbrev pub is_long : List ℕ → Bool
is_long text = nat_le most_bytes (length text)

-- lack of memory in place of a failed read or write
abbrev pub or_memory : CliFault → CliFault
or_memory Read = Memory
or_memory Write = Memory
or_memory fault = fault

-- the result of a call, in which no read or write can fail
abbrev pub unfailed : {A : Type 0} → Result A CliFault → Result A CliFault
unfailed (Ok made) = Ok made
unfailed (Err fault) = Err (or_memory fault)

-- if a text is too long a read fails; otherwise none does
abbrev pub told_as : {A : Type 0} → Bool → Result A CliFault → Result A CliFault
told_as true made = Err Read
told_as false made = unfailed made

-- the expected result is reported, with status 5 exactly if a text is too long
pub record Judges (long : Bool) (expected : Result (Result ⊤ Fault) CliFault) (found : MsrpFound) (status : ℕ) : Type 0 where
  pub what : Result (Result ⊤ Fault) CliFault
  pub is : long ≡ false → OrUnread what (what ≡ expected)
  pub tells : Tells (told_as long what) found status
  pub too_long : (status ≡ 5) ↔ (long ≡ true)

-- ---- a text in the caller's buffer
-- the text is at the front of the buffer, and the rest is unchanged; or it doesn't fit, and nothing
-- changes
pub record Puts (text old new : List ℕ) (needed : ℕ) (put : Bool) : Type 0 where
  pub needs : needed ≡ length text
  pub fits : length text ≤ length old → (put ≡ true) × (new ≡ text ++ drop (length text) old)
  pub short : length old < length text → (put ≡ false) × (new ≡ old)

-- the text that was made; with a fault there is none
abbrev pub text_in : Result Made CliFault → List ℕ
text_in (Ok made) = made.text.items
text_in (Err fault) = []

-- a text is handed over with the result's numbers and status, or with 6 if it doesn't fit
pub record HandsOver (what : Result (Result ⊤ Fault) CliFault) (text old new : List ℕ) (needed : ℕ) (found : MsrpFound) (status : ℕ) : Type 0 where
  pub numbers : found ≡ numbers_of what
  pub needs : needed ≡ length text
  pub fits : length text ≤ length old → (status ≡ status_told what) × (new ≡ text ++ drop (length text) old)
  pub short : length old < length text → (status ≡ 6) × (new ≡ old)

-- the text that was made is handed over with the verdict on its rows
abbrev pub Hands : Result Made CliFault → List ℕ → List ℕ → ℕ → MsrpFound → ℕ → Type 0
Hands made old new needed found status = HandsOver (found_in made) (text_in made) old new needed found status

-- the result that is handed over was made so, with status 5 exactly if a text is too long
pub record Gives {A : Type 0} (what_in : Result A CliFault → Result (Result ⊤ Fault) CliFault) (text_in : Result A CliFault → List ℕ) (long : Bool) (IsMade : Result A CliFault → Type 0)
    (old new : List ℕ) (needed : ℕ) (found : MsrpFound) (status : ℕ) : Type 0 where
  pub made : Result A CliFault
  pub is : long ≡ false → IsMade made
  pub hands : HandsOver (what_in (told_as long made)) (text_in (told_as long made)) old new needed found status
  pub too_long : (status ≡ 5) ↔ (long ≡ true)

-- a call hands over a text, with the verdict on its rows
abbrev pub Answers : Bool → (Result Made CliFault → Type 0) → List ℕ → List ℕ → ℕ → MsrpFound → ℕ → Type 0
Answers long IsMade old new needed found status = Gives found_in text_in long IsMade old new needed found status
