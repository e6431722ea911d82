-- A reader of rows that is read through: what it has given, and what is left.
use Rattle.std.proofs.Common.{◌≡◌, ◌⊎◌, ◌++◌, ◌∷◌, ◌∙◌}
use Rattle.msrp_plan.proofs.Common.{[], ℕ, List, Option, None, Some, Result, Ok, Err, refl, ap, sym, inl, inr, append-nil, append_assoc, PlanModel}
use Rattle.msrp_plan.specs.declared.rows.Row.{Row}
use Rattle.msrp_plan.specs.declared.rows.TextVersion.{TextVersion}
use Rattle.msrp_trace.specs.Reading.{Told, rows_of, told_by, version_of}
use Rattle.msrp_trace.specs.Readers.{GivesFirst, GivesNext, Opens, OpensBy, told_left}
use Rattle.msrp_trace.specs.declared.faults.TraceError.{TraceError}
use Rattle.msrp_trace.specs.declared.faults.TraceError.TheVariants.{At, Read, Memory}
use Rattle.msrp_trace.specs.declared.faults.TraceFault.TheVariants.{Head}
use Rattle.msrp_trace.specs.declared.reading.TraceReader.{TraceReader}

-- these rows of what is told were read, and that is left
pub record IsReadTo (told : Told) (rows : List Row) (left : Option Told) : Type 0 where
  pub rest : List Row
  pub whole : told.rows ≡ rows ++ rest
  pub unread : left ≡ Some (record { rows = rest; refusal = told.refusal })

-- the reader answers so, and that is left
abbrev pub Answers : Option Told → Result (Option Row) TraceError → Option Told → Type 0
Answers left result after = (told : Told) → left ≡ Some told → GivesNext told result after

-- an error is a read that failed, want of memory, or what is due
abbrev pub IsError : TraceError → Type 0 → Type 0
IsError error due = (error ≡ Read) ⊎ (error ≡ Memory) ⊎ due

pub none-read : (told : Told) (left : Option Told) → left ≡ Some told → IsReadTo told [] left
none-read told left e = record { rest = told.rows; whole = refl; unread = e }

first-row : (rows : List Row) (refusal : Option TraceError) (result : Result (Option Row) TraceError) (after : Option Told) (r : Row)
    → GivesFirst rows refusal result after → result ≡ Ok (Some r) → (rest : List Row) × (rows ≡ r ∷ rest) × (after ≡ Some (record { rows = rest; refusal = refusal }))
first-row (x ∷ xs) refusal result after r h e =
    let same : x ≡ r = cc in
    (xs, ap (λ y. y ∷ xs) same, h.1)
first-row [] None result after r h e = absurd (cc)
first-row [] (Some refusal) result after r h e = absurd (cc)

-- one row more
pub read-row : (told : Told) (rows : List Row) (left after : Option Told) (result : Result (Option Row) TraceError) (r : Row)
    → IsReadTo told rows left → Answers left result after → result ≡ Ok (Some r) → IsReadTo told (rows ++ r ∷ []) after
read-row told rows left after result r is next e =
    elim (next _ is.unread) [
      | inl h ↦ absurd (cc)
      | inr k ↦ elim k [
        | inl h ↦ absurd (cc)
        | inr h ↦
            let found = first-row is.rest told.refusal result after r h e in
            record { rest = found.0; whole = is.whole ∙ (ap (λ xs. rows ++ xs) found.1 ∙ sym (append_assoc rows (r ∷ []) found.0)); unread = found.2 }
      ]
    ]

-- where nothing is left, all was read
all-read : (all rows rest : List Row) → all ≡ rows ++ rest → rest ≡ [] → all ≡ rows
all-read all rows rest whole none = whole ∙ (ap (λ xs. rows ++ xs) none ∙ append-nil rows)

last-row : (rows : List Row) (refusal : Option TraceError) (result : Result (Option Row) TraceError) (after : Option Told)
    → GivesFirst rows refusal result after → result ≡ Ok None → (rows ≡ []) × (refusal ≡ None)
last-row (x ∷ xs) refusal result after h e = absurd (cc)
last-row [] None result after h e = (refl, refl)
last-row [] (Some refusal) result after h e = absurd (cc)

-- at the end all rows were read, and there is no refusal
pub read-whole : (told : Told) (rows : List Row) (left after : Option Told) (result : Result (Option Row) TraceError)
    → IsReadTo told rows left → Answers left result after → result ≡ Ok None → (told.rows ≡ rows) × (told.refusal ≡ None)
read-whole told rows left after result is next e =
    elim (next _ is.unread) [
      | inl h ↦ absurd (cc)
      | inr k ↦ elim k [
        | inl h ↦ absurd (cc)
        | inr h ↦
            let last = last-row is.rest told.refusal result after h e in
            (all-read told.rows rows is.rest is.whole last.0, last.1)
      ]
    ]

first-refusal : (rows : List Row) (refusal : Option TraceError) (result : Result (Option Row) TraceError) (after : Option Told) (error : TraceError)
    → GivesFirst rows refusal result after → result ≡ Err error → (rows ≡ []) × (refusal ≡ Some error)
first-refusal (x ∷ xs) refusal result after error h e = absurd (cc)
first-refusal [] None result after error h e = absurd (cc)
first-refusal [] (Some refusal) result after error h e = let same : refusal ≡ error = cc in (refl, ap (λ x. Some x) same)

-- an error is a read that failed, want of memory, or the refusal behind the rows that were read
pub read-refused : (told : Told) (rows : List Row) (left after : Option Told) (result : Result (Option Row) TraceError) (error : TraceError)
    → IsReadTo told rows left → Answers left result after → result ≡ Err error → IsError error ((told.rows ≡ rows) × (told.refusal ≡ Some error))
read-refused told rows left after result error is next e =
    elim (next _ is.unread) [
      | inl h ↦ let same : error ≡ Read = cc in inl same
      | inr k ↦ elim k [
        | inl h ↦ let same : error ≡ Memory = cc in inr (inl same)
        | inr h ↦
            let last = first-refusal is.rest told.refusal result after error h e in
            inr (inr (all-read told.rows rows is.rest is.whole last.0, last.1))
      ]
    ]

-- ---- a reader that opens, or doesn't
opened-by : {R : Type 0} (remaining : R → Option (List ℕ)) (o : Option TextVersion) (told : Told) (reader : TraceReader R) → OpensBy remaining o told (Ok reader) → told_left remaining reader ≡ Some told
opened-by remaining None told reader h = absurd (cc)
opened-by remaining (Some version) told reader h = h

pub opened : {R : Type 0} (remaining : R → Option (List ℕ)) (plan : PlanModel) (records : List (List (List ℕ))) (reader : TraceReader R) → Opens remaining plan records (Ok reader) → told_left remaining reader ≡ Some (rows_of plan records)
opened remaining plan records reader h = elim h [
  | inl e ↦ absurd (cc)
  | inr k ↦ elim k [ inl e ↦ absurd (cc) | inr due ↦ opened-by remaining (version_of plan records) (rows_of plan records) reader due ]
]

no-head : (plan : PlanModel) (records : List (List (List ℕ))) → version_of plan records ≡ None → rows_of plan records ≡ record { rows = []; refusal = Some (At Head 1) }
unfolding rows_of
no-head plan records e = ap (λ o. told_by plan o records) e

unopened-by : {R : Type 0} (remaining : R → Option (List ℕ)) (plan : PlanModel) (records : List (List (List ℕ))) (o : Option TextVersion) (error : TraceError) → version_of plan records ≡ o → OpensBy remaining o (rows_of plan records) (Err error)
    → rows_of plan records ≡ record { rows = []; refusal = Some error }
unopened-by remaining plan records None error e h =
    let same : At Head 1 ≡ error = cc in
    no-head plan records e ∙ ap (λ x. record { rows = []; refusal = Some x }) same
unopened-by remaining plan records (Some version) error e h = absurd h

-- a reader that doesn't open: a read that failed, want of memory, or a text that tells a refusal
-- alone
pub unopened : {R : Type 0} (remaining : R → Option (List ℕ)) (plan : PlanModel) (records : List (List (List ℕ))) (error : TraceError)
    → Opens remaining plan records (Err error) → IsError error (rows_of plan records ≡ record { rows = []; refusal = Some error })
unopened remaining plan records error h = elim h [
  | inl e ↦ let same : error ≡ Read = cc in inl same
  | inr k ↦ elim k [
    | inl e ↦ let same : error ≡ Memory = cc in inr (inl same)
    | inr due ↦ inr (inr (unopened-by remaining plan records (version_of plan records) error refl due))
  ]
]
