-- The rows of a trace's text, judged as they are read.
use Rattle.msrp_plan.specs.Common.{ℕ, List, [], Option, Some, None, Ok, Err, ⊤, PlanModel}
use Rattle.msrp_plan.specs.declared.rows.Row.{Row}
use Rattle.std.specs.Prelude.{◌∷◌, ◌++◌, ◌≡◌, Result}
use Rattle.msrp_audit.specs.Audits.{HasFed, IsBroken}
use Rattle.msrp_trace.specs.Reading.{Told}
use Rattle.msrp_trace.specs.Readers.{told_left}
use Rattle.msrp_trace.specs.declared.faults.TraceError.{TraceError}
use Rattle.msrp_engine.specs.declared.judged.Judgement.{Judgement}
use Rattle.msrp_engine.specs.declared.judged.Judgement.TheVariants.{Legal, Broken, End}
use Rattle.msrp_engine.specs.declared.judged.JudgedRows.{JudgedRows}

-- the rows that are left, and the refusal after them, if the reader's bytes are known
abbrev pub rows_left : {T : Type 0} → (T → Option (List ℕ)) → JudgedRows T → Option Told
rows_left remaining j = told_left remaining j.rows

-- the answer without its judgement
abbrev pub row_told : Result Judgement TraceError → Result (Option Row) TraceError
row_told (Ok (Legal row)) = Ok (Some row)
row_told (Ok (Broken row broken)) = Ok (Some row)
row_told (Ok End) = Ok None
row_told (Err error) = Err error

-- after these rows, which have no fault, the next one is judged so
abbrev pub IsJudged : {T : Type 0} → PlanModel → List Row → Result Judgement TraceError → JudgedRows T → Type 0
IsJudged plan rows (Ok (Legal row)) j = HasFed j.auditor (rows ++ row ∷ []) × (j.auditor.fault ≡ None)
IsJudged plan rows (Ok (Broken row broken)) j = IsBroken plan rows row broken.fault broken.expected j.auditor
IsJudged plan rows (Ok End) j = HasFed j.auditor rows × (j.auditor.fault ≡ None)
IsJudged plan rows (Err error) j = ⊤

-- this holds of the row that was read, if one was
abbrev pub IfCame : (Row → Type 0) → Result Judgement TraceError → Type 0
IfCame P (Ok (Legal row)) = P row
IfCame P (Ok (Broken row broken)) = P row
IfCame P _ = ⊤
