-- The usual lines of a plan: known words, and one more field.
use Rattle.msrp_plan.specs.Common.{ℕ, Bool, true, false, List, length, take, Option, Some, Ok, Err, OnOk, codes, nat_le, list_any, PlanModel}
use Rattle.msrp_plan.specs.declared.faults.PlanFault.{PlanFault}
use Rattle.msrp_plan.specs.declared.rows.TextVersion.{TextVersion}
use Rattle.msrp_plan.specs.declared.units.Step.{Step}
use Rattle.std.specs.Prelude.{◌++◌, ◌≡◌, ◌≤◌, ◌<◌, Result}
use Rattle.msrp_plan.specs.Building.{IsJudged}
use Rattle.msrp_plan.specs.declared.units.Step.TheVariants.{Run, Lock, Unlock}
use Rattle.msrp_text.specs.Fields.{number_of, text_of}
use Rattle.msrp_text.specs.Plain.{EndsLine, is_plain, split_commas}
use Rattle.msrp_text.specs.Positions.{IsTakenAt, position_fault, position_with}
use Rattle.msrp_text.specs.Reading.{body_fault, resource_told, with_record}
use Rattle.msrp_text.specs.Records.{GivesLine}
use Rattle.msrp_text.specs.declared.front.PlainLine.{PlainLine}
use Rattle.msrp_text.specs.declared.positions.Position.{Position}
use Rattle.msrp_text.specs.declared.reading.TextError.{TextError}

-- a byte up to the comma: so is each byte that ends a field or a line, and a quote
abbrev pub is_low : ℕ → Bool
is_low b = nat_le b 44

-- a text begins with a field of higher bytes, and the line's end
pub record IsLast (text : List ℕ) (field : PlainLine) : Type 0 where
  pub longer : field.length < field.taken
  pub within : field.taken ≤ length text
  pub ended : EndsLine (take field.length text) (take field.taken text)
  pub inside : list_any is_low (take field.length text) ≡ false

-- a text begins with some words, such a field and the line's end, in this many bytes
pub record StandsBehind (text front field : List ℕ) (taken : ℕ) : Type 0 where
  pub some : 0 < taken
  pub within : taken ≤ length text
  pub ended : EndsLine (front ++ field) (take taken text)
  pub inside : list_any is_low field ≡ false

-- the first line of a text, of n bytes with its end, is plain; a plan takes or refuses its record
pub record IsAdded (version : TextVersion) (old new : PlanModel) (text : List ℕ) (judged : Result (Unit {0}) PlanFault) (taken : ℕ) : Type 0 where
  pub line : List ℕ
  pub some : 0 < taken
  pub within : taken ≤ length text
  pub ended : EndsLine line (take taken text)
  pub plain : is_plain line ≡ true
  pub is_judged : IsJudged (body_fault version old (Some (split_commas line))) judged
  pub added : OnOk judged (new ≡ with_record old (split_commas line))

-- one more record is taken at a position or refused, or nothing is
abbrev pub MayTake : Option (List (List (List ℕ))) → Position → ℕ → Result Bool TextError → Position → Option (List (List (List ℕ))) → Type 0
MayTake old position number (Ok false) next new = (next ≡ position) × (new ≡ old)
MayTake old position number (Ok true) next new =
    (fields : List (List ℕ)) × GivesLine old fields new × IsTakenAt (position_fault position (Some fields)) number (position_with position fields) (Ok next)
MayTake old position number (Err error) next new =
    (fields : List (List ℕ)) × GivesLine old fields new × IsTakenAt {A = Position} (position_fault position (Some fields)) number (position_with position fields) (Err error)

-- the first line of a text, of n bytes with its end, has these units of a plan's newest task
abbrev pub TellsStep : PlanModel → List ℕ → Step → ℕ → Type 0
TellsStep plan text (Run n) taken = (field : List ℕ) × StandsBehind text (codes "op,run,") field taken × (number_of field ≡ Some n)
TellsStep plan text (Lock res) taken = (field : List ℕ) × StandsBehind text (codes "op,lock,") field taken × (res ≡ resource_told plan (text_of field))
TellsStep plan text (Unlock res) taken = (field : List ℕ) × StandsBehind text (codes "op,unlock,") field taken × (res ≡ resource_told plan (text_of field))
