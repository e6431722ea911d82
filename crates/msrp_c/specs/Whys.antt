-- Words on a trace, and on a plan.
use Rattle.std.specs.Prelude.{◌≡◌, ◌++◌}
use Rattle.msrp_plan.specs.Common.{ℕ, Bool, List, [], Ok, Err, IsOkAnd, ⊤, Result, PlanModel, verdict_text}
use Rattle.msrp_plan.specs.declared.faults.Fault.{Fault}
use Rattle.msrp_faults.specs.Outcomes.{fault_of}
use Rattle.msrp_faults.specs.declared.faults.CliFault.{CliFault}
use Rattle.msrp_faults.specs.declared.faults.CliFault.TheVariants.{Memory}
use Rattle.msrp_text.specs.Reading.{csv_records, plan_of}
use Rattle.msrp_text.specs.declared.reading.TextError.{TextError}
use Rattle.msrp_view_engine.specs.Answers.{plan_found}
use Rattle.msrp_view_engine.specs.declared.words.Words.{Words}
use Rattle.msrp_engine.specs.Answered.{OrUnread}
use Rattle.msrp_c.specs.Answers.{Gives, HandsOver}
use Rattle.msrp_c.specs.Feeding.{found_so_far}
use Rattle.msrp_c.specs.declared.answers.MsrpFound.{MsrpFound}
use Rattle.msrp_c.specs.declared.turns.MsrpRow.{MsrpRow}

-- what is found in a plan that words were made on, or the fault in place of both
abbrev pub refusal_in : Result Words CliFault → Result (Result ⊤ Fault) CliFault
refusal_in (Ok words) = words.found
refusal_in (Err fault) = Err fault

-- the words; a fault has none
abbrev pub words_in : Result Words CliFault → List ℕ
words_in (Ok words) = words.text.items
words_in (Err fault) = []

-- these are words on a plan's text, with its refusal
abbrev pub AreWords : List ℕ → Result Words CliFault → Type 0
AreWords text words = OrUnread words (IsOkAnd words (λ made. made.found ≡ plan_found (plan_of (csv_records text))))

-- words are handed over with the plan's refusal, which is no fault of the call: a refused plan has
-- words too
abbrev pub HandsWords : Result Words CliFault → List ℕ → List ℕ → ℕ → MsrpFound → ℕ → Type 0
HandsWords words old new needed found status = HandsOver (refusal_in words) (words_in words) old new needed found status

-- a call answers with words, and with what was refused
abbrev pub AnswersWords : Bool → (Result Words CliFault → Type 0) → List ℕ → List ℕ → ℕ → MsrpFound → ℕ → Type 0
AnswersWords long AreMade old new needed found status = Gives refusal_in words_in long AreMade old new needed found status

-- ---- words on rows that are fed
-- what the words on a finding begin with: of a fault the record of the verdict; there are none
-- while nothing is wrong
abbrev pub AreReasonsFor : Result (Result ⊤ Fault) CliFault → List ℕ → Type 0
AreReasonsFor (Ok (Ok good)) text = text ≡ []
AreReasonsFor (Ok (Err fault)) text = (rest : List ℕ) × (text ≡ verdict_text (Err fault) ++ rest)
AreReasonsFor (Err fault) text = ⊤

-- the words on a finding, or too little memory for them
abbrev pub AreReasons : Result (Result ⊤ Fault) CliFault → Result Words CliFault → Type 0
AreReasons found (Ok words) = (words.found ≡ found) × AreReasonsFor found words.text.items
AreReasons found (Err fault) = fault ≡ Memory

-- the reasons for what is found in these turns of a plan as rows so far; a refused plan has none
abbrev pub AreReasonsOf : Result PlanModel TextError → List MsrpRow → Result Words CliFault → Type 0
AreReasonsOf (Ok plan) turns words = AreReasons (found_so_far plan turns) words
AreReasonsOf (Err error) turns words = words ≡ Err (fault_of error)

-- such words are handed over
pub record TellsReasons (what : Result (Result ⊤ Fault) CliFault) (old new : List ℕ) (needed : ℕ) (found : MsrpFound) (status : ℕ) : Type 0 where
  pub words : Result Words CliFault
  pub are : AreReasons what words
  pub hands : HandsWords words old new needed found status
