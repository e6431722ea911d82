-- The report of a trace's text.
use Rattle.std.specs.Prelude.{◌≡◌}
use Rattle.msrp_plan.specs.Common.{ℕ, List, [], Option, Ok, Err, IfOk, ⊤, Result, Wrote, PlanModel}
use Rattle.msrp_plan.specs.declared.bytes.Sink.{Sink}
use Rattle.msrp_plan.specs.declared.faults.Fault.{Fault}
use Rattle.msrp_plan.specs.declared.rows.Row.{Row}
use Rattle.msrp_report.specs.Lines.{lines_of}
use Rattle.msrp_report.specs.declared.lines.Report.{Report}
use Rattle.msrp_report.specs.ReportText.{report_text}
use Rattle.msrp_text.specs.declared.reading.TextError.{TextError}
use Rattle.msrp_trace.specs.Reading.{Told, rows_of}
use Rattle.msrp_engine.specs.AuditText.{AuditAnswers}
use Rattle.msrp_engine.specs.Findings.{finding}
use Rattle.msrp_engine.specs.MadeTexts.{found_in}
use Rattle.msrp_engine.specs.declared.made.Made.{Made}
use Rattle.msrp_faults.specs.Outcomes.{fault_of, written_status}
use Rattle.msrp_faults.specs.declared.faults.CliFault.{CliFault}

-- ---- the report of the rows of a trace's text, or the finding on them
-- the verdict in such an answer
abbrev pub verdict_told : Result (Result Report Fault) CliFault → Result (Result ⊤ Fault) CliFault
verdict_told (Ok (Ok report)) = Ok (Ok tt)
verdict_told (Ok (Err fault)) = Ok (Err fault)
verdict_told (Err fault) = Err fault

-- the answer is the finding on these rows, and good rows are reported
pub record Reports (plan : PlanModel) (told : Told) (answer : Result (Result Report Fault) CliFault) : Type 0 where
  pub found : verdict_told answer ≡ finding plan told
  pub lines : IfOk answer (λ good. IfOk good (λ report. report.lines.items ≡ lines_of plan told.rows))

-- ---- the text of the report
-- the text for rows with that verdict: the report of good ones, otherwise none
abbrev pub report_shown : PlanModel → List Row → Result ⊤ Fault → List ℕ
report_shown plan rows (Ok good) = report_text plan (lines_of plan rows)
report_shown plan rows (Err fault) = []

-- the answer is the finding on these rows, with their text
pub record IsReported (plan : PlanModel) (told : Told) (answer : Result Made CliFault) : Type 0 where
  pub found : found_in answer ≡ finding plan told
  pub text : IfOk answer (λ made. made.text.items ≡ report_shown plan told.rows made.found)

-- the answer to a plan, or to the refusal of its text, and to the records of a trace's text
abbrev pub IsReportOf : Result PlanModel TextError → List (List (List ℕ)) → Result Made CliFault → Type 0
IsReportOf (Ok plan) records answer = IsReported plan (rows_of plan records) answer
IsReportOf (Err error) records answer = answer ≡ Err (fault_of error)

-- ---- the answer
-- the text is written for rows with a good verdict, otherwise the verdict
abbrev pub WritesShown : {W : Type 0} → (W → Option (List ℕ)) → List ℕ → Result ⊤ Fault → Sink W → Sink W → Result ℕ CliFault → Type 0
WritesShown contents text (Ok good) old new result = Wrote contents old new text × (result ≡ written_status new)
WritesShown contents text (Err fault) old new result = AuditAnswers contents (Ok (Err fault)) old new result

-- with these rows and this finding: the report of a legal run, otherwise what an audit answers
abbrev pub TellsReport : {W : Type 0} → (W → Option (List ℕ)) → PlanModel → List Row → Result (Result ⊤ Fault) CliFault → Sink W → Sink W → Result ℕ CliFault → Type 0
TellsReport contents plan rows (Ok found) old new result = WritesShown contents (report_shown plan rows found) found old new result
TellsReport contents plan rows (Err fault) old new result = AuditAnswers contents (Err fault) old new result

-- the answer to a plan, or to the refusal of its text, and to the records of a trace's text
abbrev pub ReportAnswers : {W : Type 0} → (W → Option (List ℕ)) → Result PlanModel TextError → List (List (List ℕ)) → Sink W → Sink W → Result ℕ CliFault → Type 0
ReportAnswers contents (Ok plan) records old new result = TellsReport contents plan (rows_of plan records).rows (finding plan (rows_of plan records)) old new result
ReportAnswers contents (Err error) records old new result = (result ≡ Err (fault_of error)) × (new ≡ old)
