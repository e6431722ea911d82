-- Records by their places, and the last place that passes a test.
use Rattle.std.proofs.Common.{◌≡◌, ◌∙◌, ◌+◌, ◌<◌, ◌&&◌, ◌∷◌, ◌++◌, if◌then◌else◌}
use Rattle.msrp_plan.proofs.Common.{ℕ, Bool, true, List, [], None, Some, ap, sym, refl, add-one, any_map, codes, drop, fold, fold_push, length, list_any, map, not, slice_index_or, get_or-map, take, take_more}
use Rattle.std.proofs.lemmas.List.{drop-map}
use Rattle.csv.specs.Records.{Row, fields_of}
use Rattle.msrp_text.specs.Reading.{record_at}
use Rattle.msrp_advice.specs.Records.{core_after, core_at, is_op, is_op_on, is_open, last_place}

-- a record by its place
pub record-is : (before : List Row) (i : ℕ) (row : Row) → i < length before → row ≡ slice_index_or before i row → fields_of row ≡ record_at (map fields_of before) i
record-is before i row within is = ap fields_of is ∙ sym (get_or-map fields_of before i row [] within)

-- no place
pub last-none : (test : ℕ → Bool) → None ≡ last_place test 0
unfolding last_place
last-none test = refl

-- one place more
pub last-more : (test : ℕ → Bool) (n : ℕ) (b : Bool) → test n ≡ b → (if b then Some n else last_place test n) ≡ last_place test (n + 1)
unfolding last_place
last-more test n b e = rw add-one (ap (λ c. if c then Some n else last_place test n) (sym e))

-- a lock at a place is open if no later record unlocks its resource
pub open-is : (before : List Row) (i : ℕ) (lock : Row) (undone : Bool) → i < length before → lock ≡ slice_index_or before i lock → true ≡ is_op (codes "lock") (fields_of lock)
    → undone ≡ list_any (λ row. is_op_on (codes "unlock") (fields_of lock) (fields_of row)) (drop (i + 1) before) → not undone ≡ is_open (map fields_of before) i
open-is before i lock undone within is locks says =
    let fields = record-is before i lock within is in
    let mapped = sym (any_map fields_of (is_op_on (codes "unlock") (fields_of lock)) (drop (i + 1) before)) in
    let any = says ∙ (mapped ∙ ap (list_any (is_op_on (codes "unlock") (fields_of lock))) (sym (drop-map fields_of (i + 1) before))) in
    ap not any ∙ (ap (λ b. b && not (list_any (is_op_on (codes "unlock") (fields_of lock)) (drop (i + 1) (map fields_of before)))) locks
    ∙ ap (λ f. is_op (codes "lock") f && not (list_any (is_op_on (codes "unlock") f) (drop (i + 1) (map fields_of before)))) fields)

-- the core of the last task, one record further
pub core-more : (records : List Row) (n : ℕ) (row : Row) → n < length records → row ≡ slice_index_or records n row → core_after (fields_of row) (core_at records n) ≡ core_at records (n + 1)
core-more records n row within is =
    let step = λ (core : ℕ) (r : Row). core_after (fields_of r) core in
    sym (ap (fold step 0) (take_more records n row within ∙ ap (λ r. take n records ++ r ∷ []) (sym is)) ∙ fold_push step 0 (take n records) row)
