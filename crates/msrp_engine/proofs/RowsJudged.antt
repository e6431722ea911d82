-- A trace's rows, judged as they are read: those that came, and what is found in them.
use Rattle.std.proofs.Common.{◌≡◌, ◌++◌, ◌∷◌, ◌+◌, ◌-◌, ◌*◌, ◌<◌, ◌∙◌}
use Rattle.msrp_plan.proofs.Common.{[], ℕ, length, List, Option, None, Some, refl, ap, sym, subst, length-append, ⊤, PlanModel, fault_in, verdict}
use Rattle.std.specs.declared.result.Result.{Result}
use Rattle.std.specs.declared.result.Result.TheVariants.{Ok, Err}
use Rattle.msrp_audit.specs.Audits.{HasFed, IsBroken, answer_of}
use Rattle.msrp_plan.specs.declared.faults.Fault.{Fault}
use Rattle.msrp_plan.specs.declared.rows.Row.{Row}
use Rattle.msrp_trace.specs.Reading.{Told}
use Rattle.msrp_trace.specs.declared.faults.TraceError.{TraceError}
use Rattle.msrp_trace.proofs.ReadThrough.{Answers, IsReadTo, none-read, read-row, read-whole}
use Rattle.msrp_engine.specs.Findings.{finding}
use Rattle.msrp_engine.specs.Judging.{IsJudged, row_told, rows_left}
use Rattle.msrp_engine.specs.declared.judged.Broken.{Broken as Refused}
use Rattle.msrp_engine.specs.declared.judged.Judgement.{Judgement}
use Rattle.msrp_engine.specs.declared.judged.Judgement.TheVariants.{Legal, Broken, End}
use Rattle.msrp_engine.specs.declared.judged.JudgedRows.{JudgedRows}
use Rattle.msrp_faults.specs.Outcomes.{trace_fault_of}
use Rattle.msrp_faults.specs.declared.faults.CliFault.{CliFault}
use Rattle.msrp_engine.proofs.Judging.{IsFound, fault-found, fewer-left, refusal-found, turn-left, verdict-found}

-- these rows came since it began: they have no fault, and are the first of what is told
pub record HaveCome {T : Type 0} (remaining : T → Option (List ℕ)) (begun now : JudgedRows T) (rows : List Row) : Type 0 where
  pub plan : now.auditor.plan ≡ begun.auditor.plan
  pub fed : HasFed now.auditor rows
  pub fault : now.auditor.fault ≡ None
  pub read : (told : Told) → rows_left remaining begun ≡ Some told → IsReadTo told rows (rows_left remaining now)

pub none-came : {T : Type 0} (remaining : T → Option (List ℕ)) (begun : JudgedRows T) → HasFed begun.auditor [] → HaveCome remaining begun begun []
none-came remaining begun fed = record { plan = refl; fed = fed; fault = fed.fault; read = λ told known. none-read told (rows_left remaining begun) known }

-- what the next call answers, and leaves
pub record Gives {T : Type 0} (remaining : T → Option (List ℕ)) (old new : JudgedRows T) (rows : List Row) (result : Result Judgement TraceError) : Type 0 where
  pub plan : new.auditor.plan ≡ old.auditor.plan
  pub answers : Answers (rows_left remaining old) (row_told result) (rows_left remaining new)
  pub judged : IsJudged old.auditor.plan rows result new

pub next-gives : {T : Type 0} (remaining : T → Option (List ℕ)) (begun old new : JudgedRows T) (rows : List Row) (result : Result Judgement TraceError)
    → HaveCome remaining begun old rows → new.auditor.plan ≡ old.auditor.plan → Answers (rows_left remaining old) (row_told result) (rows_left remaining new)
    → ((rows : List Row) → HasFed old.auditor rows → old.auditor.fault ≡ None → IsJudged old.auditor.plan rows result new) → Gives remaining old new rows result
next-gives remaining begun old new rows result came plan answers judged = record { plan = plan; answers = answers; judged = judged rows came.fed came.fault }

no-fault : {T : Type 0} (remaining : T → Option (List ℕ)) (begun now : JudgedRows T) (rows : List Row) → HaveCome remaining begun now rows → fault_in now.auditor.plan rows ≡ None
no-fault remaining begun now rows came = sym came.fed.fault ∙ came.fault

pub came-good : {T : Type 0} (remaining : T → Option (List ℕ)) (begun now : JudgedRows T) (rows : List Row) → HaveCome remaining begun now rows → fault_in begun.auditor.plan rows ≡ None
came-good remaining begun now rows came = subst (λ (p : PlanModel). fault_in p rows ≡ None) came.plan (no-fault remaining begun now rows came)

-- a legal row: it came too, and fewer turns are left
pub row-came : {T : Type 0} (remaining : T → Option (List ℕ)) (begun old new : JudgedRows T) (rows : List Row) (result : Result Judgement TraceError) (row : Row)
    → HaveCome remaining begun old rows → Gives remaining old new rows result → result ≡ Ok (Legal row) → HaveCome remaining begun new (rows ++ row ∷ [])
row-came remaining begun old new rows result row came next is =
    let judged : HasFed new.auditor (rows ++ row ∷ []) × (new.auditor.fault ≡ None) = subst (λ r. IsJudged old.auditor.plan rows r new) is next.judged in
    record { plan = next.plan ∙ came.plan; fed = judged.0; fault = judged.1; read = λ told known. read-row told rows _ _ (row_told result) row (came.read told known) next.answers (ap row_told is) }

pub fewer-turns : {T : Type 0} (remaining : T → Option (List ℕ)) (begun old new : JudgedRows T) (rows : List Row) (result : Result Judgement TraceError) (row : Row)
    → HaveCome remaining begun old rows → Gives remaining old new rows result → result ≡ Ok (Legal row)
    → new.auditor.plan.cores * new.auditor.plan.ticks - new.auditor.fed < old.auditor.plan.cores * old.auditor.plan.ticks - old.auditor.fed
fewer-turns remaining begun old new rows result row came next is =
    let more = row-came remaining begun old new rows result row came next is in
    let was : old.auditor.fed ≡ length rows = came.fed.count came.fault in
    let now : new.auditor.fed ≡ length (rows ++ row ∷ []) = more.fed.count more.fault in
    let left = turn-left old.auditor.plan rows row (no-fault remaining begun old rows came)
    (subst (λ (p : PlanModel). fault_in p (rows ++ row ∷ []) ≡ None) next.plan (no-fault remaining begun new (rows ++ row ∷ []) more)) in
    fewer-left old.auditor.plan new.auditor.plan old.auditor.fed new.auditor.fed next.plan (now ∙ (length-append rows (row ∷ []) ∙ ap (λ n. n + 1) (sym was)))
    (subst (λ n. n < old.auditor.plan.cores * old.auditor.plan.ticks) (sym was) left)

-- a row that breaks a rule is what is found
pub broken-found : {T : Type 0} (remaining : T → Option (List ℕ)) (begun old new : JudgedRows T) (rows : List Row) (result : Result Judgement TraceError) (row : Row) (broken : Refused) (told : Told)
    → HaveCome remaining begun old rows → Gives remaining old new rows result → result ≡ Ok (Broken row broken) → rows_left remaining begun ≡ Some told
    → finding begun.auditor.plan told ≡ Ok (Err broken.fault)
broken-found remaining begun old new rows result row broken told came next is known =
    let judged : IsBroken old.auditor.plan rows row broken.fault broken.expected new.auditor = subst (λ r. IsJudged old.auditor.plan rows r new) is next.judged in
    let more = read-row told rows _ _ (row_told result) row (came.read told known) next.answers (ap row_told is) in
    subst (λ (p : PlanModel). finding p told ≡ Ok (Err broken.fault)) came.plan (fault-found old.auditor.plan told (rows ++ row ∷ []) more.rest broken.fault more.whole judged.fault)

-- at the end the verdict on all rows is
pub end-found : {T : Type 0} (remaining : T → Option (List ℕ)) (begun old new : JudgedRows T) (rows : List Row) (result : Result Judgement TraceError) (told : Told)
    → HaveCome remaining begun old rows → Gives remaining old new rows result → result ≡ Ok End → rows_left remaining begun ≡ Some told
    → HasFed new.auditor rows × (told.rows ≡ rows) × (finding begun.auditor.plan told ≡ Ok (answer_of (verdict new.auditor.plan rows)))
end-found remaining begun old new rows result told came next is known =
    let judged : HasFed new.auditor rows × (new.auditor.fault ≡ None) = subst (λ r. IsJudged old.auditor.plan rows r new) is next.judged in
    let found = verdict-found old.auditor.plan told rows _ _ (row_told result) (came.read told known) next.answers (ap row_told is) (no-fault remaining begun old rows came) in
    let whole = read-whole told rows _ _ (row_told result) (came.read told known) next.answers (ap row_told is) in
    (judged.0, whole.0, subst (λ (p : PlanModel). finding p told ≡ Ok (answer_of (verdict new.auditor.plan rows))) came.plan (found ∙ ap (λ (p : PlanModel). Ok (answer_of (verdict p rows))) (sym next.plan)))

-- an error of the reader is a read that failed, want of memory, or the refusal
pub error-found : {T : Type 0} (remaining : T → Option (List ℕ)) (begun old new : JudgedRows T) (rows : List Row) (result : Result Judgement TraceError) (error : TraceError) (answer : Result (Result ⊤ Fault) CliFault) (told : Told)
    → HaveCome remaining begun old rows → Gives remaining old new rows result → result ≡ Err error → rows_left remaining begun ≡ Some told → answer ≡ Err (trace_fault_of error)
    → IsFound begun.auditor.plan told answer
error-found remaining begun old new rows result error answer told came next is known gives =
    subst (λ (p : PlanModel). IsFound p told answer) came.plan
    (refusal-found old.auditor.plan told rows _ _ (row_told result) error answer (came.read told known) next.answers (ap row_told is) (no-fault remaining begun old rows came) gives)
