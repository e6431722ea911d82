-- The records that a reader stands in, one more.
use Rattle.std.proofs.Common.{◌≡◌, ◌∙◌, ◌⊎◌, ◌+◌, ◌-◌, ◌∷◌}
use Rattle.msrp_plan.proofs.Common.{ℕ, Bool, true, List, [], Option, Some, Result, Err, drop, length, length-drop, refl, sym, ap, subst, arith, inl, inr, slice_index_or, cases_lt, drop_more}
use Rattle.msrp_plan.specs.declared.rows.Row.{Row}
use Rattle.msrp_text.specs.Reading.{record_at}
use Rattle.msrp_text.specs.Records.{GivesLine, GivesNext}
use Rattle.msrp_text.proofs.Remaining.{gave-one}
use Rattle.msrp_trace.specs.Readers.{IsRecordOf, StandsBehind, record_read}
use Rattle.msrp_trace.specs.RowParts.{ReadsAt}
use Rattle.msrp_trace.specs.declared.faults.TraceError.{TraceError}
use Rattle.msrp_trace.specs.declared.faults.TraceError.TheVariants.{At, Read, Memory}
use Rattle.msrp_trace.specs.declared.faults.TraceFault.{TraceFault}
use Rattle.msrp_trace.specs.declared.faults.TraceFault.TheVariants.{Head}
use Rattle.msrp_trace.specs.declared.reading.TraceReader.{TraceReader}
use Rattle.msrp_trace.proofs.Telling.{read_refuses}

-- the record that is next, and what is left behind it
next_is : (records : List (List (List ℕ))) (n : ℕ) (fields : List (List ℕ)) (rest : List (List (List ℕ))) → drop n records ≡ fields ∷ rest → (fields ≡ record_at records n) × (rest ≡ drop (n + 1) records)
next_is records n fields rest e = elim (cases_lt n (length records)) [
  | inl within ↦ let f = sym (drop_more records n [] within) ∙ e in (cc, cc)
  | inr past ↦ let size : length (drop n records) ≡ length (fields ∷ rest) = ap length e in absurd (omega (arith, length-drop n records, size, past))
]

-- a record that was read
pub next_stands : (records : List (List (List ℕ))) (n number : ℕ) (found : Bool) (fields : List (List ℕ)) (after : Option (List (List (List ℕ)))) → GivesNext (drop n records) found fields after → found ≡ true → number ≡ n + 1
    → (after ≡ Some (drop number records)) × (fields ≡ record_at records (number - 1))
next_stands records n number found fields after gives e count =
    let next = gave-one (drop n records) found fields after gives e in
    let is = next_is records n fields next.0 next.1 in
    let place : n ≡ number - 1 = omega (arith, count) in
    (next.2 ∙ ap (λ xs. Some xs) (is.1 ∙ ap (λ k. drop k records) (sym count)), is.0 ∙ ap (λ k. slice_index_or records k []) place)

-- a line that was met
pub line_stands : (records : List (List (List ℕ))) (n number : ℕ) (old new : Option (List (List (List ℕ)))) (fields : List (List ℕ)) → GivesLine old fields new → number ≡ n + 1 → old ≡ Some (drop n records) → new ≡ Some (drop number records)
line_stands records n number old new fields gives count stands = (next_stands records n number true fields new (gives (drop n records) stands) refl count).0

-- no further record could be had
pub stopped_stands : (records : List (List (List ℕ))) (error : TraceError) (fields : List (List ℕ)) → (error ≡ Read) ⊎ (error ≡ Memory) → IsRecordOf records error fields
stopped_stands records error fields h = elim h [
  | inl e ↦ subst (λ x. IsRecordOf records x fields) (sym e) tt
  | inr e ↦ subst (λ x. IsRecordOf records x fields) (sym e) tt
]

-- a record that was read and refused
pub refused_stands : (records : List (List (List ℕ))) (number : ℕ) (o : Option TraceFault) (told : Option Row) (read : Result Row TraceError) (error : TraceError) (fields : List (List ℕ))
    → ReadsAt number o told read → read ≡ Err error → fields ≡ record_at records (number - 1) → IsRecordOf records error fields
refused_stands records number o told read error fields reads is h =
    let refused = read_refuses number o told error (subst (ReadsAt number o told) is reads) in
    subst (λ e. IsRecordOf records e fields) (sym refused.2) h

-- where a reader answers an error, its last record is the refused one
pub error_behind : {R : Type 0} (remaining : R → Option (List ℕ)) (records : List (List (List ℕ))) (answer : Result (Option Row) TraceError) (error : TraceError) (t : TraceReader R) → answer ≡ Err error → IsRecordOf records error (record_read t) → StandsBehind remaining records answer t
error_behind remaining records answer error t is h = subst (λ r. StandsBehind remaining records r t) (sym is) h

-- a first record that is refused
pub head_refused : (records : List (List (List ℕ))) (error : TraceError) (fields : List (List ℕ)) → error ≡ At Head 1 → fields ≡ record_at records 0 → IsRecordOf records error fields
head_refused records error fields is h = subst (λ e. IsRecordOf records e fields) (sym is) h
