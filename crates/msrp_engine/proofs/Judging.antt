-- What is found in rows that are judged as they come.
use Rattle.std.proofs.Common.{◌≡◌, ◌⊎◌, ◌++◌, ◌∷◌, ◌+◌, ◌-◌, ◌*◌, ◌/◌, ◌<◌, ◌==◌, ◌&&◌, ◌∙◌}
use Rattle.msrp_plan.proofs.Common.{[], ℕ, cond, length, List, Option, None, Some, refl, ap, sym, subst, inl, inr, arith, cases_lt, le-ltb, ⊤, true, not, nat_lt, PlanModel, broken, fault_in, fault_or, had_turn, is_in_turn, verdict, fault_push, fault_stays}
use Rattle.msrp_plan.specs.declared.faults.Fault.{Fault}
use Rattle.msrp_plan.specs.declared.faults.Rule.TheVariants.{A7}
use Rattle.msrp_plan.specs.declared.rows.Row.{Row}
use Rattle.std.specs.declared.result.Result.{Result}
use Rattle.std.specs.declared.result.Result.TheVariants.{Ok, Err}
use Rattle.msrp_audit.specs.Audits.{answer_of}
use Rattle.msrp_trace.specs.Reading.{Told, rows_of}
use Rattle.msrp_trace.specs.Readers.{Opens}
use Rattle.msrp_trace.specs.declared.faults.TraceError.{TraceError}
use Rattle.msrp_trace.proofs.ReadThrough.{Answers, IsError, IsReadTo, read-refused, read-whole, unopened}
use Rattle.msrp_engine.specs.Findings.{finding, found_first}
use Rattle.msrp_faults.specs.Outcomes.{trace_fault_of}
use Rattle.msrp_faults.specs.declared.faults.CliFault.{CliFault}
use Rattle.msrp_faults.specs.declared.faults.CliFault.TheVariants.{Read as ReadFault, Memory as NoMemory}

-- what is found, but for a read that failed and for memory
abbrev pub IsFound : PlanModel → Told → Result (Result ⊤ Fault) CliFault → Type 0
IsFound plan told found = (found ≡ Err ReadFault) ⊎ (found ≡ Err NoMemory) ⊎ (found ≡ finding plan told)

-- a fault of the first rows is found
pub fault-found : (plan : PlanModel) (told : Told) (rows rest : List Row) (f : Fault) → told.rows ≡ rows ++ rest → fault_in plan rows ≡ Some f → finding plan told ≡ Ok (Err f)
fault-found plan told rows rest f is h =
    let whole : fault_in plan told.rows ≡ Some f = subst (λ xs. fault_in plan xs ≡ Some f) (sym is) (fault_stays plan rows rest f h) in
    ap (λ o. found_first o told.refusal (verdict plan told.rows)) whole

whole-found : (plan : PlanModel) (all rows : List Row) (refusal : Option TraceError) → all ≡ rows → refusal ≡ None → fault_in plan rows ≡ None → found_first (fault_in plan all) refusal (verdict plan all) ≡ Ok (answer_of (verdict plan rows))
whole-found plan all rows refusal same none good =
    subst (λ xs. found_first (fault_in plan xs) refusal (verdict plan xs) ≡ Ok (answer_of (verdict plan rows))) (sym same) (
    ap (λ o. found_first o refusal (verdict plan rows)) good ∙ ap (λ o. found_first None o (verdict plan rows)) none)

-- at the end the verdict on the whole is found
pub verdict-found : (plan : PlanModel) (told : Told) (rows : List Row) (left after : Option Told) (result : Result (Option Row) TraceError)
    → IsReadTo told rows left → Answers left result after → result ≡ Ok None → fault_in plan rows ≡ None
    → finding plan told ≡ Ok (answer_of (verdict plan rows))
verdict-found plan told rows left after result is next e good =
    let whole = read-whole told rows left after result is next e in
    whole-found plan told.rows rows told.refusal whole.0 whole.1 good

pub refused-found : (plan : PlanModel) (all rows : List Row) (refusal : Option TraceError) (error : TraceError) → all ≡ rows → refusal ≡ Some error → fault_in plan rows ≡ None → found_first (fault_in plan all) refusal (verdict plan all) ≡ Err (trace_fault_of error)
refused-found plan all rows refusal error same some good =
    subst (λ xs. found_first (fault_in plan xs) refusal (verdict plan xs) ≡ Err (trace_fault_of error)) (sym same) (
    ap (λ o. found_first o refusal (verdict plan rows)) good ∙ ap (λ o. found_first None o (verdict plan rows)) some)

-- an error of the reader, behind good rows
error-found : (plan : PlanModel) (told : Told) (rows : List Row) (error : TraceError) (answer : Result (Result ⊤ Fault) CliFault)
    → IsError error ((told.rows ≡ rows) × (told.refusal ≡ Some error)) → fault_in plan rows ≡ None → answer ≡ Err (trace_fault_of error) → IsFound plan told answer
error-found plan told rows error answer h good gives = elim h [
  | inl same ↦ inl (gives ∙ ap (λ x. Err (trace_fault_of x)) same)
  | inr k ↦ elim k [
    | inl same ↦ inr (inl (gives ∙ ap (λ x. Err (trace_fault_of x)) same))
    | inr last ↦ inr (inr (gives ∙ sym (refused-found plan told.rows rows told.refusal error last.0 last.1 good)))
  ]
]

-- an error behind good rows is a read that failed, want of memory, or the refusal
pub refusal-found : (plan : PlanModel) (told : Told) (rows : List Row) (left after : Option Told) (result : Result (Option Row) TraceError) (error : TraceError) (answer : Result (Result ⊤ Fault) CliFault)
    → IsReadTo told rows left → Answers left result after → result ≡ Err error → fault_in plan rows ≡ None → answer ≡ Err (trace_fault_of error)
    → IsFound plan told answer
refusal-found plan told rows left after result error answer is next e good gives = error-found plan told rows error answer (read-refused told rows left after result error is next e) good gives

-- an answer that tells no fault, and one that tells one
pub good-answer : (o : Option Fault) (good : ⊤) → Ok good ≡ answer_of o → o ≡ None
good-answer None good h = refl
good-answer (Some f) good h = absurd (cc)

pub fault-answer : (o : Option Fault) (f : Fault) → Err f ≡ answer_of o → o ≡ Some f
fault-answer None f h = absurd (cc)
fault-answer (Some g) f h = cc

is-one : (f : Fault) → Some f ≡ None → ⊥
is-one f h = absurd (cc)

-- rows without a fault are no more than the turns of the plan
pub turn-left : (plan : PlanModel) (rows : List Row) (r : Row) → fault_in plan rows ≡ None → fault_in plan (rows ++ r ∷ []) ≡ None → length rows < plan.cores * plan.ticks
turn-left plan rows r good next = elim (cases_lt (length rows) (plan.cores * plan.ticks)) [
  | inl l ↦ l
  | inr past ↦
      absurd (is-one (record { row = length rows + 1; rule = A7 }) (
      sym (ap (λ b. fault_or (cond b (broken plan rows r) (Some A7)) (length rows + 1) None) (le-ltb (length rows) (plan.cores * plan.ticks) past)) ∙ (sym (fault_push plan rows r good) ∙ next)))
]

fewer : (k m n : ℕ) → n ≡ m + 1 → m < k → k - n < k - m
fewer k m n e l = omega arith

pub fewer-left : (old new : PlanModel) (m n : ℕ) → new ≡ old → n ≡ m + 1 → m < old.cores * old.ticks → new.cores * new.ticks - n < old.cores * old.ticks - m
fewer-left old new m n same next left = subst (λ (p : PlanModel). p.cores * p.ticks - n < old.cores * old.ticks - m) (sym same) (fewer (old.cores * old.ticks) m n next left)

-- a reader that doesn't open
pub unopened-found : {R : Type 0} (remaining : R → Option (List ℕ)) (plan : PlanModel) (records : List (List (List ℕ))) (error : TraceError) (answer : Result (Result ⊤ Fault) CliFault)
    → Opens remaining plan records (Err error) → answer ≡ Err (trace_fault_of error) → IsFound plan (rows_of plan records) answer
unopened-found remaining plan records error answer h gives = elim (unopened remaining plan records error h) [
  | inl same ↦ inl (gives ∙ ap (λ x. Err (trace_fault_of x)) same)
  | inr k ↦ elim k [
    | inl same ↦ inr (inl (gives ∙ ap (λ x. Err (trace_fault_of x)) same))
    | inr told ↦ inr (inr (gives ∙ sym (ap (finding plan) told)))
  ]
]

-- a row of the same tick and core as one that is in its turn is so too
pub turn-as : (plan : PlanModel) (rows : List Row) (due r : Row) → r.core.0 ≡ due.core.0 → r.tick ≡ due.tick → is_in_turn plan rows due ≡ true → is_in_turn plan rows r ≡ true
turn-as plan rows due r core tick turn =
    ap (λ n. (n == length rows / plan.cores) && (nat_lt r.core.0 plan.cores && not (had_turn r.core.0 n rows))) tick
    ∙ (ap (λ n. (due.tick == length rows / plan.cores) && (nat_lt n plan.cores && not (had_turn n due.tick rows))) core ∙ turn)
