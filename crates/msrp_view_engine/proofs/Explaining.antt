-- What is found in rows that are judged as they are read: the cause of a fault, or the refusal
-- after them, and the words on it.
use Rattle.std.proofs.Common.{◌≡◌, ◌⊎◌, ◌+◌, ◌++◌, ◌∷◌, ◌∙◌}
use Rattle.msrp_plan.proofs.Common.{[], ℕ, true, List, Option, Some, None, Result, Ok, Err, IfOk, IfErr, ap, sym, subst, inl, inr, append_assoc, same_Some, ⊤, IfSome, option_or, PlanModel, fault_in, missing, verdict}
use Rattle.msrp_plan.specs.Common.{IsOkAnd}
use Rattle.msrp_view_engine.proofs.Common.{Answers, AreNoted, AreOnTrace, BeginsIn, BeginsRow, CliFault, Fault, IsCauseAfter, IsExplainedOf, IsJudged, IsReadTo, NoMemory, Opens, OrUnread, ReadFault, Row, Sink, TextError, Told, TraceError, WhyAnswers, WritesWords, answer_of, fault_of, finding, finding_of, is_record_fault, read-refused, read-whole, rows_of, trace_fault_of, unopened}
use Rattle.msrp_why.specs.declared.causes.Cause.{Cause}
use Rattle.msrp_why.specs.declared.notes.Notes.{Notes}
use Rattle.msrp_engine.proofs.Judging as judging
use Rattle.msrp_view_engine.specs.declared.why.Judged.{Judged}
use Rattle.msrp_view_engine.specs.declared.why.Judged.TheVariants.{End, Row as AtRow}
use Rattle.msrp_view_engine.specs.declared.words.Words.{Words}

-- an error of the reader, behind good rows
pub refusal-judged : (plan : PlanModel) (told : Told) (rows : List Row) (left after : Option Told) (result : Result (Option Row) TraceError) (error : TraceError) (answer : Result Judged TraceError)
    → IsReadTo told rows left → Answers left result after → result ≡ Err error → fault_in plan rows ≡ None → answer ≡ Err error → IsJudged plan told answer
refusal-judged plan told rows left after result error answer is next e good gives = subst (IsJudged plan told) (sym gives) (elim (read-refused told rows left after result error is next e) [
  | inl same ↦ inl same
  | inr k ↦ elim k [
    | inl same ↦ inr (inl same)
    | inr last ↦ inr (inr (judging.refused-found plan told.rows rows told.refusal error last.0 last.1 good, last.1))
  ]
])

-- a faulty row, with its cause
pub cause-found : (plan : PlanModel) (told : Told) (rows : List Row) (r : Row) (left : Option Told) (fault : Fault) (cause : Cause) → IsReadTo told (rows ++ r ∷ []) left → fault_in plan (rows ++ r ∷ []) ≡ Some fault → IsCauseAfter plan rows r cause
    → IsJudged plan told (Ok (AtRow cause))
cause-found plan told rows r left fault cause more broken is = (
  judging.fault-found plan told (rows ++ r ∷ []) more.rest fault more.whole broken ∙ ap (λ f. Ok (Err f)) (same_Some fault cause.fault (sym broken ∙ is.fault)),
  record { before = rows; row = r; behind = more.rest; place = more.whole ∙ append_assoc rows (r ∷ []) more.rest; is = is },
)

-- the line that is told of it
pub line-found : (fault : Fault) (cause : Cause) (bytes : List ℕ) (line : Option ℕ) → cause.fault ≡ fault → cause.line ≡ line → IfSome line (BeginsIn bytes (fault.row + 1)) → BeginsRow bytes (AtRow cause)
line-found fault cause bytes line same told begins =
    subst (λ o. IfSome o (BeginsIn bytes (cause.fault.row + 1))) (sym told) (subst (λ (x : Fault). IfSome line (BeginsIn bytes (x.row + 1))) (sym same) begins)

-- rows without a fault, at the end
pub end-found : (plan : PlanModel) (told : Told) (rows : List Row) (left after : Option Told) (result : Result (Option Row) TraceError) (found : Result ⊤ Fault) (notes : Notes)
    → IsReadTo told rows left → Answers left result after → result ≡ Ok None → fault_in plan rows ≡ None → found ≡ answer_of (verdict plan rows) → AreNoted plan rows notes
    → IsJudged plan told (Ok (End found notes))
end-found plan told rows left after result found notes is next e good answer noted =
    let whole = read-whole told rows left after result is next e in
    let short : verdict plan rows ≡ missing plan rows = ap (λ o. option_or o (missing plan rows)) good in
    (judging.verdict-found plan told rows left after result is next e good ∙ ap (λ x. Ok x) (sym answer), answer ∙ (ap answer_of short ∙ ap (λ xs. answer_of (missing plan xs)) (sym whole.0)), subst (λ xs. AreNoted plan xs notes) (sym whole.0) noted)

-- ---- the words in memory
abbrev pub IsExplained : PlanModel → Told → Result Words CliFault → Type 0
IsExplained plan told answer = OrUnread answer (IsOkAnd answer (λ words. words.found ≡ finding plan told))

-- on a verdict
pub judged-explained : (plan : PlanModel) (told : Told) (verdict : Result ⊤ Fault) (answer : Result Words CliFault) → finding plan told ≡ Ok verdict
    → IfOk answer (λ words. words.found ≡ Ok verdict) → IfErr answer (λ fault. fault ≡ NoMemory) → IsExplained plan told answer
judged-explained plan told verdict (Ok words) is found memory = inr (inr (found ∙ sym is))
judged-explained plan told verdict (Err fault) is found memory = inr (inl (ap (λ x. Err x) memory))

-- a read that failed, or want of memory, has no words
no-record : (x : CliFault) (words : Words) → words.found ≡ Err x → AreOnTrace words → is_record_fault x ≡ true
no-record x words found are = subst (λ f. IfErr f (λ g. is_record_fault g ≡ true)) found are.refused

-- an error in place of words
no-words : {P : Type 0} (fault : CliFault) → (fault ≡ NoMemory) ⊎ (fault ≡ ReadFault) → OrUnread {A = Words} (Err fault) P
no-words fault h = elim h [ inl memory ↦ inr (inl (ap (λ x. Err x) memory)) | inr read ↦ inl (ap (λ x. Err x) read) ]

-- on a refusal
pub refused-explained : (plan : PlanModel) (told : Told) (error : TraceError) (answer : Result Words CliFault) → IsJudged plan told (Err error)
    → IfOk answer (λ words. words.found ≡ Err (trace_fault_of error)) → IfOk answer AreOnTrace → IfErr answer (λ fault. (fault ≡ NoMemory) ⊎ (fault ≡ ReadFault)) → IsExplained plan told answer
refused-explained plan told error (Ok words) is found are fault = elim is [
  | inl read ↦ (let no = no-record ReadFault words (found ∙ ap (λ e. Err (trace_fault_of e)) read) are in absurd (cc))
  | inr k ↦ elim k [
    | inl memory ↦ (let no = no-record NoMemory words (found ∙ ap (λ e. Err (trace_fault_of e)) memory) are in absurd (cc))
    | inr due ↦ inr (inr (found ∙ sym due.0))
  ]
]
refused-explained plan told error (Err f) is found are fault = no-words f fault

-- a reader that doesn't open
pub unopened-judged : {R : Type 0} (remaining : R → Option (List ℕ)) (plan : PlanModel) (records : List (List (List ℕ))) (error : TraceError) → Opens remaining plan records (Err error) → IsJudged plan (rows_of plan records) (Err error)
unopened-judged remaining plan records error h = elim (unopened remaining plan records error h) [
  | inl same ↦ inl same
  | inr k ↦ elim k [ inl same ↦ inr (inl same) | inr told ↦ inr (inr (ap (finding plan) told, ap (λ (t : Told). t.refusal) told)) ]
]

-- ---- what is answered to them
-- the finding that comes with words, or the refusal in place of them
pub found-words : (read : Result PlanModel TextError) (records : List (List (List ℕ))) (words : Words) → IsExplainedOf read records (Ok words) → words.found ≡ finding_of read records
found-words (Ok plan) records words is = is
found-words (Err error) records words is = absurd (cc)

pub found-none : (read : Result PlanModel TextError) (records : List (List (List ℕ))) (fault : CliFault) → IsExplainedOf read records (Err fault) → Err fault ≡ finding_of read records
found-none (Ok plan) records fault is = absurd is
found-none (Err error) records fault is = let same : fault ≡ fault_of error = cc in ap (λ x. Err x) same

-- what is written
pub written : {W : Type 0} (contents : W → Option (List ℕ)) (read : Result PlanModel TextError) (records : List (List (List ℕ))) (words : Words) (old new : Sink W) (result : Result ℕ CliFault)
    → IsExplainedOf read records (Ok words) → WritesWords contents words.found old new result → WhyAnswers contents read records old new result
written contents (Ok plan) records words old new result is writes = subst (λ found. WritesWords contents found old new result) is writes
written contents (Err error) records words old new result is writes = absurd (cc)

pub unwritten : {W : Type 0} (contents : W → Option (List ℕ)) (read : Result PlanModel TextError) (records : List (List (List ℕ))) (fault : CliFault) (old new : Sink W) (result : Result ℕ CliFault)
    → IsExplainedOf read records (Err fault) → result ≡ Err fault → new ≡ old → WhyAnswers contents read records old new result
unwritten contents (Ok plan) records fault old new result is gives same = absurd is
unwritten contents (Err error) records fault old new result is gives same = let f : fault ≡ fault_of error = cc in (gives ∙ ap (λ x. Err x) f, same)
