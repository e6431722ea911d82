-- The rows of a trace's text, counted as they are judged.
use Rattle.std.proofs.Common.{◌≡◌, ◌⊎◌, ◌∙◌}
use Rattle.msrp_plan.proofs.Common.{ℕ, List, Option, IfOk, ap, sym, subst, inl, inr, ⊤, PlanModel}
use Rattle.msrp_plan.specs.declared.bytes.Sink.{Sink}
use Rattle.msrp_plan.specs.declared.faults.Fault.{Fault}
use Rattle.std.specs.declared.result.Result.{Result}
use Rattle.std.specs.declared.result.Result.TheVariants.{Ok, Err}
use Rattle.msrp_report.specs.Lines.{lines_of}
use Rattle.msrp_report.specs.declared.lines.Report.{Report}
use Rattle.msrp_text.specs.declared.reading.TextError.{TextError}
use Rattle.msrp_trace.specs.Reading.{Told, rows_of}
use Rattle.msrp_engine.specs.Findings.{finding}
use Rattle.msrp_faults.specs.Outcomes.{fault_of}
use Rattle.msrp_engine.specs.Reports as reports
use Rattle.msrp_engine.specs.Reports.{IsReportOf, ReportAnswers, Reports, TellsReport, WritesShown, report_shown, verdict_told}
use Rattle.msrp_faults.specs.declared.faults.CliFault.{CliFault}
use Rattle.msrp_faults.specs.declared.faults.CliFault.TheVariants.{Read as ReadFault, Memory as NoMemory}
use Rattle.msrp_engine.specs.declared.made.Made.{Made}
use Rattle.msrp_engine.proofs.Judging.{IsFound}

-- what is reported, but for a read that failed and for memory
abbrev pub IsReported : PlanModel → Told → Result (Result Report Fault) CliFault → Type 0
IsReported plan told answer = (answer ≡ Err ReadFault) ⊎ (answer ≡ Err NoMemory) ⊎ Reports plan told answer

pub reported-fault : (plan : PlanModel) (told : Told) (fault : Fault) → finding plan told ≡ Ok (Err fault) → IsReported plan told (Ok (Err fault))
reported-fault plan told fault found = inr (inr (record { found = sym found; lines = tt }))

pub reported-error : (plan : PlanModel) (told : Told) (fault : CliFault) → IsFound plan told (Err fault) → IsReported plan told (Err fault)
reported-error plan told fault h = elim h [
  | inl a ↦ let same : fault ≡ ReadFault = cc in inl (ap (λ x. Err x) same)
  | inr k ↦ elim k [
    | inl b ↦ let same : fault ≡ NoMemory = cc in inr (inl (ap (λ x. Err x) same))
    | inr f ↦ inr (inr (record { found = f; lines = tt }))
  ]
]

-- the rows of a whole trace
pub reported-end : (plan : PlanModel) (told : Told) (found : Result ⊤ Fault) (result : Result Report Fault) → finding plan told ≡ Ok found → verdict_told (Ok result) ≡ Ok found → IfOk result (λ report. report.lines.items ≡ lines_of plan told.rows) → IsReported plan told (Ok result)
reported-end plan told found result e same lines = inr (inr (record { found = same ∙ sym e; lines = lines }))

-- ---- the answer
-- what is answered where a report was asked for in memory: it is written, and of a fault nothing is
abbrev pub Follows : {W : Type 0} → (W → Option (List ℕ)) → Result Made CliFault → Sink W → Sink W → Result ℕ CliFault → Type 0
Follows contents (Ok made) old new result = WritesShown contents made.text.items made.found old new result
Follows contents (Err fault) old new result = (result ≡ Err fault) × (new ≡ old)

shown-as : {W : Type 0} (contents : W → Option (List ℕ)) (found : Result ⊤ Fault) (old new : Sink W) (result : Result ℕ CliFault) (a b : List ℕ) → a ≡ b → WritesShown contents a found old new result → WritesShown contents b found old new result
shown-as contents found old new result a b same shown = subst (λ text. WritesShown contents text found old new result) same shown

in-shown : {W : Type 0} (contents : W → Option (List ℕ)) (plan : PlanModel) (told : Told) (answer : Result Made CliFault) (old new : Sink W) (result : Result ℕ CliFault)
    → reports.IsReported plan told answer → Follows contents answer old new result → TellsReport contents plan told.rows (finding plan told) old new result
in-shown contents plan told (Ok made) old new result is follows =
    subst (λ f. TellsReport contents plan told.rows f old new result) is.found (shown-as contents made.found old new result made.text.items (report_shown plan told.rows made.found) is.text follows)
in-shown contents plan told (Err fault) old new result is follows = subst (λ f. TellsReport contents plan told.rows f old new result) is.found follows

-- of a fault nothing is written
refuses : {W : Type 0} (contents : W → Option (List ℕ)) (answer : Result Made CliFault) (fault : CliFault) (old new : Sink W) (result : Result ℕ CliFault)
    → answer ≡ Err fault → Follows contents answer old new result → (result ≡ Err fault) × (new ≡ old)
refuses contents (Ok made) fault old new result is follows = absurd (cc)
refuses contents (Err other) fault old new result is follows = let same : other ≡ fault = cc in (follows.0 ∙ ap (λ x. Err x) same, follows.1)

answers : {W : Type 0} (contents : W → Option (List ℕ)) (read : Result PlanModel TextError) (records : List (List (List ℕ))) (answer : Result Made CliFault) (old new : Sink W) (result : Result ℕ CliFault)
    → IsReportOf read records answer → Follows contents answer old new result → ReportAnswers contents read records old new result
answers contents (Ok plan) records answer old new result is follows = in-shown contents plan (rows_of plan records) answer old new result is follows
answers contents (Err error) records answer old new result is follows = refuses contents answer (fault_of error) old new result is follows

-- the answer is that of the texts, but for a read that failed and for memory
pub report-answers : {W : Type 0} (contents : W → Option (List ℕ)) (read : Result PlanModel TextError) (records : List (List (List ℕ))) (answer : Result Made CliFault) (old new : Sink W) (result : Result ℕ CliFault)
    → (answer ≡ Err ReadFault) ⊎ (answer ≡ Err NoMemory) ⊎ IsReportOf read records answer → Follows contents answer old new result
    → (result ≡ Err ReadFault) ⊎ (result ≡ Err NoMemory) ⊎ ReportAnswers contents read records old new result
report-answers contents read records answer old new result h follows = elim h [
  | inl e ↦ inl (refuses contents answer ReadFault old new result e follows).0
  | inr k ↦ elim k [
    | inl e ↦ inr (inl (refuses contents answer NoMemory old new result e follows).0)
    | inr is ↦ inr (inr (answers contents read records answer old new result is follows))
  ]
]
