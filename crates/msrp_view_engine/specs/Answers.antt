-- What is found in texts, and what the engines answer.
use Rattle.std.specs.Prelude.{◌≡◌, ◌⊎◌, ◌+◌, ◌++◌}
use Rattle.msrp_plan.specs.Common.{ℕ, Bool, false, true, List, Option, Some, Ok, Err, IfErr, IfOk, IfSome, IsOkAnd, ⊤, Result, PlanModel, Wrote, verdict, verdict_text}
use Rattle.std.specs.Option.{option_map_or}
use Rattle.msrp_view_engine.specs.Common.{AreNoted, BeginsIn, CliFault, Fault, IsCauseIn, Made, Row, Sink, TextError, Told, TraceError, answer_of, answered, fault_of, finding, finding_of, found_in, is_plan_code, is_trace_code, missing, rows_of, trace_fault_of, verdict_status, is_view_fault, window_of}
use Rattle.msrp_trace.specs.declared.faults.TraceError.TheVariants as trace
use Rattle.msrp_faults.specs.declared.faults.CliFault.TheVariants as cli
use Rattle.msrp_view_engine.specs.declared.view.Drawing.{Drawing}
use Rattle.msrp_view_engine.specs.declared.view.Drawing.TheVariants.{Page, Picture}
use Rattle.msrp_view_engine.specs.declared.view.Gathered.{Gathered}
use Rattle.msrp_view_engine.specs.declared.why.Judged.{Judged}
use Rattle.msrp_view_engine.specs.declared.why.Judged.TheVariants.{End, Row as AtRow}
use Rattle.msrp_view_engine.specs.declared.words.Words.{Words}

-- the status of the verdict, or the refusal
abbrev pub answer_to : Result (Result ⊤ Fault) CliFault → Result ℕ CliFault
answer_to (Ok verdict) = Ok (verdict_status verdict)
answer_to (Err fault) = Err fault

-- the answer where a fault is reported: nothing is written
abbrev pub Refuses : {W : Type 0} → CliFault → Sink W → Sink W → Result ℕ CliFault → Type 0
Refuses fault old new result = (result ≡ Err fault) × (new ≡ old)

-- ---- pictures, and pages for a browser
-- all rows of the trace, or the refusal after them
abbrev pub rows_read : Told → Result (List Row) CliFault
rows_read told = option_map_or (λ error. Err (trace_fault_of error)) told.refusal (Ok told.rows)

-- the rows that were gathered, or the fault
abbrev pub rows_in : Result Gathered CliFault → Result (List Row) CliFault
rows_in (Ok gathered) = Ok gathered.trace.rows.items
rows_in (Err fault) = Err fault

-- the verdict on rows that were read
abbrev pub verdict_on : PlanModel → Result (List Row) CliFault → Result (Result ⊤ Fault) CliFault
verdict_on plan (Ok rows) = Ok (answer_of (verdict plan rows))
verdict_on plan (Err fault) = Err fault

-- what comes with a drawing: a page has all ticks, and a picture has a window; it is wrong usage
-- if the plan doesn't have these ticks
abbrev pub found_drawn : PlanModel → Told → Drawing → Result (Result ⊤ Fault) CliFault
found_drawn plan told (Picture asked) = option_map_or (λ window. verdict_on plan (rows_read told)) (window_of plan asked) (Err cli.Usage)
found_drawn plan told (Page length) = verdict_on plan (rows_read told)

-- what is found in the text of an accepted or a refused plan, and in a trace's records
abbrev pub drawing_found : Result PlanModel TextError → List (List (List ℕ)) → Drawing → Result (Result ⊤ Fault) CliFault
drawing_found (Ok plan) records drawing = found_drawn plan (rows_of plan records) drawing
drawing_found (Err error) records drawing = Err (fault_of error)

-- the drawing in memory comes with that
abbrev pub IsDrawingOf : Result PlanModel TextError → List (List (List ℕ)) → Drawing → Result Made CliFault → Type 0
IsDrawingOf plan records drawing made = found_in made ≡ drawing_found plan records drawing

-- the answer where a drawing is written: a fault has none
abbrev pub WritesDrawing : {W : Type 0} → Result (Result ⊤ Fault) CliFault → Sink W → Sink W → Result ℕ CliFault → Type 0
WritesDrawing (Ok verdict) old new result = result ≡ answered (answer_to (Ok verdict)) new
WritesDrawing (Err fault) old new result = Refuses fault old new result

-- the faults of a drawing: a page has no window, so no wrong usage
abbrev pub is_drawing_fault : CliFault → Drawing → Bool
is_drawing_fault cli.Usage (Page length) = false
is_drawing_fault fault drawing = is_view_fault fault

-- ---- exports
-- the status of a verdict if the sink took all, and a refusal in any case
abbrev pub export_answer : {W : Type 0} → Result (Result ⊤ Fault) CliFault → Sink W → Result ℕ CliFault
export_answer (Ok verdict) new = answered (answer_to (Ok verdict)) new
export_answer (Err fault) new = Err fault

-- the answer to the text of an accepted or a refused plan, and to a trace's records
abbrev pub ExportAnswers : {W : Type 0} → Result PlanModel TextError → List (List (List ℕ)) → Sink W → Sink W → Result ℕ CliFault → Type 0
ExportAnswers (Ok plan) records old new result = result ≡ export_answer (finding plan (rows_of plan records)) new
ExportAnswers (Err error) records old new result = Refuses (fault_of error) old new result

-- ---- why a trace is not legal
-- a record of a trace is refused
abbrev pub is_record_fault : CliFault → Bool
is_record_fault (cli.Trace code number) = is_trace_code code
is_record_fault _ = false

-- what the words on a finding begin with: the record of the verdict
abbrev pub BeginsWith : Result (Result ⊤ Fault) CliFault → List ℕ → Type 0
BeginsWith (Ok verdict) text = (rest : List ℕ) × (text ≡ verdict_text verdict ++ rest)
BeginsWith (Err fault) text = ⊤

-- words on a trace: a verdict, or the refusal of a record
pub record AreOnTrace (words : Words) : Type 0 where
  pub refused : IfErr words.found (λ fault. is_record_fault fault ≡ true)
  pub begins : BeginsWith words.found words.text.items

-- what an audit of these rows finds, with the cause; or the refusal after them, a failed read or
-- a failed allocation
abbrev pub IsJudged : PlanModel → Told → Result Judged TraceError → Type 0
IsJudged plan told (Ok (AtRow cause)) = (finding plan told ≡ Ok (Err cause.fault)) × IsCauseIn plan told.rows cause
IsJudged plan told (Ok (End verdict notes)) = (finding plan told ≡ Ok verdict) × (verdict ≡ answer_of (missing plan told.rows)) × AreNoted plan told.rows notes
IsJudged plan told (Err error) = (error ≡ trace.Read) ⊎ (error ≡ trace.Memory) ⊎ ((finding plan told ≡ Err (trace_fault_of error)) × (told.refusal ≡ Some error))

-- if the line of a refused row is known, its record begins in it; the head is the first record
abbrev pub BeginsRow : List ℕ → Judged → Type 0
BeginsRow bytes (AtRow cause) = IfSome cause.line (BeginsIn bytes (cause.fault.row + 1))
BeginsRow bytes (End verdict notes) = ⊤

-- if the line of a refused record is known, it begins in it
abbrev pub BeginsRefused : List ℕ → TraceError → Option ℕ → Type 0
BeginsRefused bytes (trace.At fault number) line = IfSome line (BeginsIn bytes number)
BeginsRefused bytes _ line = ⊤

-- the words on the text of an accepted or a refused plan, and on a trace's records
abbrev pub IsExplainedOf : Result PlanModel TextError → List (List (List ℕ)) → Result Words CliFault → Type 0
IsExplainedOf (Ok plan) records answer = IsOkAnd answer (λ words. words.found ≡ finding plan (rows_of plan records))
IsExplainedOf (Err error) records answer = answer ≡ Err (fault_of error)

-- the verdict, and the words on it in memory
abbrev pub IsWhyOf : Result PlanModel TextError → List (List (List ℕ)) → Result Made CliFault → Type 0
IsWhyOf plan records made = (found_in made ≡ finding_of plan records) × IfOk made (λ words. BeginsWith (Ok words.found) words.text.items)

-- words are written that begin so, and that is answered
pub record WritesWords {W : Type 0} (contents : W → Option (List ℕ)) (found : Result (Result ⊤ Fault) CliFault) (old new : Sink W) (result : Result ℕ CliFault) : Type 0 where
  pub text : List ℕ
  pub begins : BeginsWith found text
  pub wrote : Wrote contents old new text
  pub status : result ≡ answered (answer_to found) new

-- the answer where the words are written: a refused plan has none
abbrev pub WhyAnswers : {W : Type 0} → (W → Option (List ℕ)) → Result PlanModel TextError → List (List (List ℕ)) → Sink W → Sink W → Result ℕ CliFault → Type 0
WhyAnswers contents (Ok plan) records old new result = WritesWords contents (finding plan (rows_of plan records)) old new result
WhyAnswers contents (Err error) records old new result = Refuses (fault_of error) old new result

-- ---- what is wrong or odd in a plan
-- nothing is wrong with an accepted plan, and a refused one has its refusal
abbrev pub plan_found : Result PlanModel TextError → Result (Result ⊤ Fault) CliFault
plan_found (Ok plan) = Ok (Ok tt)
plan_found (Err error) = Err (fault_of error)

-- the plan is accepted, or one of its records is refused
abbrev pub IsOnPlan : Result (Result ⊤ Fault) CliFault → Type 0
IsOnPlan (Ok verdict) = verdict ≡ Ok tt
IsOnPlan (Err (cli.Plan code number)) = is_plan_code code ≡ true
IsOnPlan (Err _) = ⊥
