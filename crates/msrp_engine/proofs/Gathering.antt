-- Rows that are gathered before they are judged.
use Rattle.std.proofs.Common.{◌≡◌, ◌++◌, ◌≤◌, ◌+◌, ◌*◌, ◌∙◌, ◌-◌}
use Rattle.msrp_plan.proofs.Common.{[], ℕ, Bool, true, false, cond, length, List, Option, None, Some, option_map, refl, ap, sym, subst, inl, inr, append-nil, arith, le-ltb, option_or, ⊤, nat_lt, PlanModel, is_chosen, is_fifo_reply, is_in_turn, is_next_action, is_of_core, fault_in, missing, verdict, early_is, good_is_run}
use Rattle.msrp_plan.specs.declared.faults.Fault.{Fault}
use Rattle.msrp_plan.specs.declared.faults.Rule.{Rule}
use Rattle.msrp_plan.specs.declared.faults.Rule.TheVariants.{A1, A2, A3, A4, A5, A6, A7}
use Rattle.msrp_plan.specs.declared.rows.Row.{Row}
use Rattle.std.specs.declared.result.Result.{Result}
use Rattle.std.specs.declared.result.Result.TheVariants.{Ok, Err}
use Rattle.msrp_audit.specs.Audits.{answer_of}
use Rattle.msrp_plan.proofs.Runs.Verdicts.{early_fault}
use Rattle.msrp_trace.specs.Reading.{Told}
use Rattle.msrp_trace.specs.declared.faults.TraceError.{TraceError}
use Rattle.msrp_trace.proofs.ReadThrough.{Answers, IsReadTo, read-refused, read-whole}
use Rattle.msrp_engine.specs.Findings.{found_first}
use Rattle.msrp_engine.specs.Inside.Gathered.{IsGathered, found_in, is_missing}
use Rattle.msrp_faults.specs.Outcomes.{trace_fault_of}
use Rattle.msrp_faults.specs.declared.faults.CliFault.{CliFault}
use Rattle.msrp_faults.specs.declared.faults.CliFault.TheVariants.{Memory as NoMemory}
use Rattle.msrp_engine.proofs.Judging.{IsFound, fault-answer, fault-found, good-answer, refused-found}

-- ---- what ended the reading
-- as many as were asked for
pub gathered-full : (most : ℕ) (told : Told) (rows : List Row) (left : Option Told) → IsReadTo told rows left → most ≤ length rows → IsGathered most told rows (Ok tt)
gathered-full most told rows left is full = record { rest = is.rest; whole = is.whole; end = inl full }

-- memory was refused
pub gathered-unkept : (most : ℕ) (told : Told) (rows : List Row) (left : Option Told) → IsReadTo told rows left → IsGathered most told rows (Err NoMemory)
gathered-unkept most told rows left is = record { rest = is.rest; whole = is.whole; end = inr (inl refl) }

-- the end of the text
pub gathered-all : (most : ℕ) (told : Told) (rows : List Row) (left after : Option Told) (result : Result (Option Row) TraceError)
    → IsReadTo told rows left → Answers left result after → result ≡ Ok None → IsGathered most told rows (Ok tt)
gathered-all most told rows left after result is next e =
    let whole = read-whole told rows left after result is next e in
    record { rest = []; whole = whole.0 ∙ sym (append-nil rows); end = inr (refl, whole.1) }

-- an error of the reader
pub gathered-refused : (most : ℕ) (told : Told) (rows : List Row) (left after : Option Told) (result : Result (Option Row) TraceError) (error : TraceError)
    → IsReadTo told rows left → Answers left result after → result ≡ Err error → IsGathered most told rows (Err (trace_fault_of error))
gathered-refused most told rows left after result error is next e = elim (read-refused told rows left after result error is next e) [
  | inl same ↦ record { rest = is.rest; whole = is.whole; end = inl (ap trace_fault_of same) }
  | inr k ↦ elim k [
    | inl same ↦ record { rest = is.rest; whole = is.whole; end = inr (inl (ap trace_fault_of same)) }
    | inr last ↦ record { rest = []; whole = last.0 ∙ sym (append-nil rows); end = inr (inr (refl, ap (option_map trace_fault_of) last.1)) }
  ]
]

-- ---- the fault of the rows that stand, and a row that is missing
not-missing : (a b c d e : Bool) → cond a (cond b (cond c (cond d (cond e None (Some A5)) (Some A4)) (Some A3)) (Some A2)) (Some A1) ≡ Some A6 → ⊥
not-missing false b c d e h = absurd (cc)
not-missing true false c d e h = absurd (cc)
not-missing true true false d e h = absurd (cc)
not-missing true true true false e h = absurd (cc)
not-missing true true true true false h = absurd (cc)
not-missing true true true true true h = absurd (cc)

stands : (plan : PlanModel) (rows : List Row) (f : Fault) → fault_in plan rows ≡ Some f → f.rule ≡ A6 → ⊥
stands plan rows f h six = elim (early_fault plan rows f h) [
  | inl broke ↦ not-missing (is_in_turn plan broke.before broke.broke) (is_of_core plan broke.broke) (is_chosen plan broke.before broke.broke) (is_next_action plan broke.before broke.broke) (is_fifo_reply broke.before broke.broke) (broke.rule ∙ ap (λ r. Some r) six)
  | inr extra ↦ absurd (cc)
]

missing-rule : (short : Bool) (n : ℕ) (f : Fault) → cond short (Some (record { row = n; rule = A6 })) None ≡ Some f → f.rule ≡ A6
missing-rule true n f h = let is : record { row = n; rule = A6 } ≡ f = cc in ap (λ (g : Fault). g.rule) (sym is)
missing-rule false n f h = absurd (cc)

by-rule : (o m : Option Fault) (f : Fault) → (m ≡ Some f → f.rule ≡ A6) → option_or o m ≡ Some f → ¬ (f.rule ≡ A6) → o ≡ Some f
by-rule None m f six h other = absurd (other (six h))
by-rule (Some g) m f six h other = h

-- a fault of another rule is that of the rows that stand
fault-stands : (plan : PlanModel) (rows : List Row) (f : Fault) → verdict plan rows ≡ Some f → ¬ (f.rule ≡ A6) → fault_in plan rows ≡ Some f
fault-stands plan rows f h other = by-rule (fault_in plan rows) (missing plan rows) f (missing-rule (nat_lt (length rows) (plan.cores * plan.ticks)) (length rows + 1) f) h other

none-by : (plan : PlanModel) (rows : List Row) (o : Option Fault) (f : Fault) → fault_in plan rows ≡ o → option_or o (missing plan rows) ≡ Some f → f.rule ≡ A6 → o ≡ None
none-by plan rows None f is h six = refl
none-by plan rows (Some g) f is h six = let same : g ≡ f = cc in absurd (stands plan rows g is (ap (λ (x : Fault). x.rule) same ∙ six))

-- where a row is missing, those that stand have no fault
missing-stands : (plan : PlanModel) (rows : List Row) (f : Fault) → verdict plan rows ≡ Some f → f.rule ≡ A6 → fault_in plan rows ≡ None
missing-stands plan rows f h six = none-by plan rows (fault_in plan rows) f refl h six

neither : (o m : Option Fault) → option_or o m ≡ None → o ≡ None
neither None m h = refl
neither (Some g) m h = absurd (cc)

good-stands : (plan : PlanModel) (rows : List Row) → verdict plan rows ≡ None → fault_in plan rows ≡ None
good-stands plan rows h = neither (fault_in plan rows) (missing plan rows) h

-- one row more than are due has a fault
too-many : (plan : PlanModel) (rows : List Row) (o : Option Fault) → fault_in plan rows ≡ o → plan.cores * plan.ticks + 1 ≤ length rows → (f : Fault) × (fault_in plan rows ≡ Some f)
too-many plan rows None is more =
    let short : nat_lt (length rows) (plan.cores * plan.ticks) ≡ false = le-ltb (length rows) (plan.cores * plan.ticks) (omega (arith, more)) in
    let good : verdict plan rows ≡ None = ap (λ o. option_or o (missing plan rows)) is ∙ ap (λ b. cond b (Some (record { row = length rows + 1; rule = A6 })) None) short in
    let size = (good_is_run plan rows good).size in
    absurd (let no : ⊥ = omega (arith, size, more) in no)
too-many plan rows (Some f) is more = (f, is)

-- ---- what is found
refused-told : (plan : PlanModel) (all rows : List Row) (refusal : Option TraceError) (fault : CliFault) → all ≡ rows → option_map trace_fault_of refusal ≡ Some fault → fault_in plan rows ≡ None
    → found_first (fault_in plan all) refusal (verdict plan all) ≡ Err fault
refused-told plan all rows None fault same e good = absurd (cc)
refused-told plan all rows (Some error) fault same e good =
    let is : trace_fault_of error ≡ fault = cc in
    refused-found plan all rows (Some error) error same refl good ∙ ap (λ x. Err x) is

-- what ended the reading, behind rows without a fault
found-refused : (plan : PlanModel) (told : Told) (rows : List Row) (most : ℕ) (fault : CliFault) → IsGathered most told rows (Err fault) → fault_in plan rows ≡ None → IsFound plan told (Err fault)
found-refused plan told rows most fault is good = elim is.end [
  | inl e ↦ inl (ap (λ x. Err x) e)
  | inr k ↦ elim k [
    | inl e ↦ inr (inl (ap (λ x. Err x) e))
    | inr h ↦ inr (inr (sym (refused-told plan told.rows rows told.refusal fault (is.whole ∙ (ap (λ xs. rows ++ xs) h.0 ∙ append-nil rows)) h.1 good)))
  ]
]

-- a fault of the rows, whatever ended the reading
found-fault : (plan : PlanModel) (told : Told) (rows : List Row) (most : ℕ) (ended : Result ⊤ CliFault) (f : Fault) → IsGathered most told rows ended → fault_in plan rows ≡ Some f → IsFound plan told (Ok (Err f))
found-fault plan told rows most ended f is h = inr (inr (sym (fault-found plan told rows is.rest f is.whole h)))

verdict-first : (o m : Option Fault) → found_first o None (option_or o m) ≡ Ok (answer_of (option_or o m))
verdict-first None m = refl
verdict-first (Some f) m = refl

whole-told : (plan : PlanModel) (all rows : List Row) (refusal : Option TraceError) → all ≡ rows → refusal ≡ None → found_first (fault_in plan all) refusal (verdict plan all) ≡ Ok (answer_of (verdict plan rows))
whole-told plan all rows refusal same none =
    subst (λ xs. found_first (fault_in plan xs) refusal (verdict plan xs) ≡ Ok (answer_of (verdict plan rows))) (sym same) (
    ap (λ o. found_first (fault_in plan rows) o (verdict plan rows)) none ∙ verdict-first (fault_in plan rows) (missing plan rows))

-- the verdict on all rows, or on one more than are due
found-whole : (plan : PlanModel) (told : Told) (rows : List Row) (done : ⊤) → IsGathered (plan.cores * plan.ticks + 1) told rows (Ok done) → IsFound plan told (Ok (answer_of (verdict plan rows)))
found-whole plan told rows done is = elim is.end [
  | inl full ↦
      let some = too-many plan rows (fault_in plan rows) refl full in
      inr (inr (ap (λ o. Ok (answer_of o)) (early_is plan rows some.0 some.1) ∙ sym (fault-found plan told rows is.rest some.0 is.whole some.1)))
  | inr h ↦ inr (inr (sym (whole-told plan told.rows rows told.refusal (is.whole ∙ (ap (λ xs. rows ++ xs) h.0 ∙ append-nil rows)) h.1)))
]

missing-is : (r : Rule) → is_missing r ≡ true → r ≡ A6
missing-is A1 e = absurd (cc)
missing-is A2 e = absurd (cc)
missing-is A3 e = absurd (cc)
missing-is A4 e = absurd (cc)
missing-is A5 e = absurd (cc)
missing-is A6 e = refl
missing-is A7 e = absurd (cc)

other-is : (r : Rule) → is_missing r ≡ false → ¬ (r ≡ A6)
other-is r e six = let no : is_missing r ≡ true = ap is_missing six in absurd (cc)

by-missing : (plan : PlanModel) (told : Told) (rows : List Row) (most : ℕ) (f : Fault) (fault : CliFault) → IsGathered most told rows (Err fault) → verdict plan rows ≡ Some f
    → (b : Bool) → is_missing f.rule ≡ b → IsFound plan told (cond b (Err fault) (Ok (Err f)))
by-missing plan told rows most f fault is h true e = found-refused plan told rows most fault is (missing-stands plan rows f h (missing-is f.rule e))
by-missing plan told rows most f fault is h false e = found-fault plan told rows most (Err fault) f is (fault-stands plan rows f h (other-is f.rule e))

-- whatever ended the reading
pub found-gathered : (plan : PlanModel) (told : Told) (rows : List Row) (judged : Result ⊤ Fault) (ended : Result ⊤ CliFault)
    → IsGathered (plan.cores * plan.ticks + 1) told rows ended → judged ≡ answer_of (verdict plan rows) → IsFound plan told (found_in judged ended)
found-gathered plan told rows judged (Ok done) is e = subst (λ (j : Result ⊤ Fault). IsFound plan told (Ok j)) (sym e) (found-whole plan told rows done is)
found-gathered plan told rows (Ok good) (Err fault) is e = found-refused plan told rows (plan.cores * plan.ticks + 1) fault is (good-stands plan rows (good-answer (verdict plan rows) good e))
found-gathered plan told rows (Err f) (Err fault) is e = by-missing plan told rows (plan.cores * plan.ticks + 1) f fault is (fault-answer (verdict plan rows) f e) (is_missing f.rule) refl
