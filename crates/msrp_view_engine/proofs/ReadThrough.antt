-- A text that is read to its end: its rows, or its records.
use Rattle.std.proofs.Common.{◌≡◌, ◌∙◌, ◌+◌, ◌≤◌, ◌∷◌, ◌++◌}
use Rattle.msrp_plan.proofs.Common.{[], ℕ, List, Option, None, Some, Result, Ok, Err, length, drop, take, ap, arith, sym, inl, inr, length-drop, slice_index_or, cases_lt, drop_more, take_all, take_more}
use Rattle.msrp_view_engine.proofs.Common.{Answers, CliFault, IsError, IsReadTo, OrUnread, Row, Told, TraceError, read-whole, rows_in, rows_read, trace_fault_of}
use Rattle.std.specs.Option.{option_map_or}
use Rattle.msrp_view_engine.specs.declared.view.Gathered.{Gathered}

-- at the end all rows were read
pub all-read : (told : Told) (rows : List Row) (left after : Option Told) (result : Result (Option Row) TraceError)
    → IsReadTo told rows left → Answers left result after → result ≡ Ok None → Ok rows ≡ rows_read told
all-read told rows left after result is next e =
    let whole = read-whole told rows left after result is next e in
    sym (ap (λ o. option_map_or (λ error. Err (trace_fault_of error)) o (Ok told.rows)) whole.1 ∙ ap (λ xs. Ok xs) whole.0)

-- an error of the reader is a read that failed, want of memory, or the refusal
pub error-read : (told : Told) (error : TraceError) (answer : Result Gathered CliFault) (due : Type 0) → IsError error due → (due → told.refusal ≡ Some error) → answer ≡ Err (trace_fault_of error)
    → OrUnread answer (rows_in answer ≡ rows_read told)
error-read told error answer due h refused gives = elim h [
  | inl same ↦ inl (gives ∙ ap (λ x. Err (trace_fault_of x)) same)
  | inr k ↦ elim k [
    | inl same ↦ inr (inl (gives ∙ ap (λ x. Err (trace_fault_of x)) same))
    | inr last ↦ inr (inr (ap rows_in gives ∙ sym (ap (λ o. option_map_or (λ error. Err (trace_fault_of error)) o (Ok told.rows)) (refused last))))
  ]
]

-- ---- records
-- the next record is taken too, and those behind it are left
pub one-more : (records : List (List (List ℕ))) (n : ℕ) (row : List (List ℕ)) (rest : List (List (List ℕ))) → drop n records ≡ row ∷ rest
    → (rest ≡ drop (n + 1) records) × (take n records ++ row ∷ [] ≡ take (n + 1) records)
one-more records n row rest e = elim (cases_lt n (length records)) [
  | inl within ↦
      let f = sym (drop_more records n [] within) ∙ e in
      let same : slice_index_or records n [] ≡ row = cc in
      (cc, sym (take_more records n [] within ∙ ap (λ r. take n records ++ r ∷ []) same))
  | inr past ↦ let size : length (drop n records) ≡ length (row ∷ rest) = ap length e in absurd (omega (arith, length-drop n records, size, past))
]

-- where no record is left, none is taken further on
pub all-taken : (records : List (List (List ℕ))) (n m : ℕ) → drop n records ≡ [] → n ≤ m → take n records ≡ take m records
all-taken records n m e h =
    let size : length (drop n records) ≡ 0 = ap length e in
    let small : length records ≤ n = omega (arith, length-drop n records, size) in
    take_all n records small ∙ sym (take_all m records (omega arith))
