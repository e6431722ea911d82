-- What records tell, one by one: the rows, and the refusal after them.
use Rattle.std.proofs.Common.{◌≡◌, ◌+◌, ◌∷◌, ◌∙◌}
use Rattle.msrp_plan.proofs.Common.{ℕ, suc, Bool, true, false, cond, List, [], take, Option, Some, None, Result, Ok, Err, is_none, refl, sym, ap, subst, inl, inr, arith, slice_get, option_map, cons_option, filter_map, option_and_then, PlanModel}
use Rattle.msrp_plan.specs.declared.rows.Row.{Row}
use Rattle.msrp_plan.specs.declared.rows.TextVersion.{TextVersion}
use Rattle.std.specs.List.{prefix_len, take_while}
use Rattle.msrp_text.specs.Records.{KeepsRecords}
use Rattle.msrp_trace.specs.Reading.{Told, is_row, refusal_at, rows_of, told_after, told_by, version_of}
use Rattle.msrp_trace.specs.Readers.{GivesFirst, GivesFirstOr, GivesNext, HoldsUnlessFailed, Opens, left_at, nothing_left, state_after, told_left}
use Rattle.msrp_trace.specs.RowParts.{ReadsAt}
use Rattle.msrp_trace.specs.Rows.{row_fault, row_told, version_told}
use Rattle.msrp_trace.specs.declared.faults.TraceError.{TraceError}
use Rattle.msrp_trace.specs.declared.faults.TraceError.TheVariants.{At}
use Rattle.msrp_trace.specs.declared.faults.TraceFault.{TraceFault}
use Rattle.msrp_trace.specs.declared.faults.TraceFault.TheVariants.{Head}
use Rattle.msrp_trace.specs.declared.reading.ReaderState.{ReaderState}
use Rattle.msrp_trace.specs.declared.reading.TraceReader.{TraceReader}
use Rattle.msrp_trace.specs.declared.reading.ReaderState.TheVariants.{Rows, Ended, Failed}

-- ---- the first record
pub version_none : (plan : PlanModel) → version_of plan [] ≡ None
unfolding version_of
version_none plan = refl

pub version_first : (plan : PlanModel) (fields : List (List ℕ)) (rest : List (List (List ℕ))) → version_of plan (fields ∷ rest) ≡ version_told plan fields
unfolding version_of
version_first plan fields rest = refl

-- the rows of a text whose first record tells a version are those of the records after it
pub rows_first : (plan : PlanModel) (fields : List (List ℕ)) (rest : List (List (List ℕ))) (version : TextVersion) → version_told plan fields ≡ Some version → rows_of plan (fields ∷ rest) ≡ told_after version plan 1 rest
unfolding rows_of
rows_first plan fields rest version e = ap (λ o. told_by plan o (fields ∷ rest)) (version_first plan fields rest ∙ e)

-- ---- one record more
-- no record tells no row
pub told_end : (version : TextVersion) (plan : PlanModel) (n : ℕ) → told_after version plan n [] ≡ nothing_left
unfolding told_after
told_end version plan n = refl

-- a list whose first element passes, or doesn't
pub while_more : (p : List (List ℕ) → Bool) (x : List (List ℕ)) (xs : List (List (List ℕ))) → p x ≡ true → (prefix_len p (x ∷ xs) ≡ suc (prefix_len p xs)) × (take_while p (x ∷ xs) ≡ x ∷ take_while p xs)
while_more p x xs h =
    let size : prefix_len p (x ∷ xs) ≡ suc (prefix_len p xs) = ap (λ b. cond b (1 + prefix_len p xs) 0) h ∙ (let e : 1 + prefix_len p xs ≡ suc (prefix_len p xs) = omega arith in e) in
    (size, ap (λ n. take n (x ∷ xs)) size)

pub while_none : (p : List (List ℕ) → Bool) (x : List (List ℕ)) (xs : List (List (List ℕ))) → p x ≡ false → prefix_len p (x ∷ xs) ≡ 0
while_none p x xs h = ap (λ b. cond b (1 + prefix_len p xs) 0) h

-- a record that is refused ends the rows
pub told_refused : (version : TextVersion) (plan : PlanModel) (n : ℕ) (fields : List (List ℕ)) (rest : List (List (List ℕ))) (fault : TraceFault) → row_fault version plan fields ≡ Some fault
    → told_after version plan n (fields ∷ rest) ≡ record { rows = []; refusal = Some (At fault (n + 1)) }
unfolding told_after
told_refused version plan n fields rest fault e =
    let size = while_none (is_row version plan) fields rest (ap is_none e) in
    ap (λ k. record {
      rows = filter_map (row_told version plan) (take k (fields ∷ rest));
      refusal = option_and_then (refusal_at version plan (n + k + 1)) (slice_get (fields ∷ rest) k);
    }) size
    ∙ (let same : n + 0 + 1 ≡ n + 1 = omega arith in ap (λ k. record { rows = []; refusal = refusal_at version plan k fields }) same
    ∙ ap (λ o. record { rows = []; refusal = option_map (λ f. At f (n + 1)) o }) e)

-- a record that tells a row goes before what the rest tells
pub told_more : (version : TextVersion) (plan : PlanModel) (n : ℕ) (fields : List (List ℕ)) (rest : List (List (List ℕ))) (r : Row) → row_fault version plan fields ≡ None → row_told version plan fields ≡ Some r
    → told_after version plan n (fields ∷ rest) ≡ record { rows = r ∷ (told_after version plan (n + 1) rest).rows; refusal = (told_after version plan (n + 1) rest).refusal }
unfolding told_after
told_more version plan n fields rest r e t =
    let p = is_row version plan in
    let more = while_more p fields rest (ap is_none e) in
    let place : n + prefix_len p (fields ∷ rest) + 1 ≡ n + 1 + prefix_len p rest + 1 = let k = more.0 in omega (arith, k) in
    let rows : filter_map (row_told version plan) (take_while p (fields ∷ rest)) ≡ r ∷ filter_map (row_told version plan) (take_while p rest) =
    ap (filter_map (row_told version plan)) more.1 ∙ ap (λ o. cons_option o (filter_map (row_told version plan) (take_while p rest))) t in
    let refusal : option_and_then (refusal_at version plan (n + prefix_len p (fields ∷ rest) + 1)) (slice_get (fields ∷ rest) (prefix_len p (fields ∷ rest))) ≡ option_and_then (refusal_at version plan (n + 1 + prefix_len p rest + 1)) (slice_get rest (prefix_len p rest)) =
    ap (λ k. option_and_then (refusal_at version plan k) (slice_get (fields ∷ rest) (prefix_len p (fields ∷ rest)))) place ∙ ap (λ k. option_and_then (refusal_at version plan (n + 1 + prefix_len p rest + 1)) (slice_get (fields ∷ rest) k)) more.0 in
    ap (λ rs. record { rows = rs; refusal = option_and_then (refusal_at version plan (n + prefix_len p (fields ∷ rest) + 1)) (slice_get (fields ∷ rest) (prefix_len p (fields ∷ rest))) }) rows
    ∙ ap (λ o. record { rows = r ∷ filter_map (row_told version plan) (take_while p rest); refusal = o }) refusal

-- ---- the answers to a record
pub read_refuses : (number : ℕ) (o : Option TraceFault) (told : Option Row) (e : TraceError) → ReadsAt number o told (Err e) → (fault : TraceFault) × (o ≡ Some fault) × (e ≡ At fault number)
read_refuses number None told e h = absurd h
read_refuses number (Some fault) told e h = (fault, refl, cc)

pub read_gives : (number : ℕ) (o : Option TraceFault) (told : Option Row) (r : Row) → ReadsAt number o told (Ok r) → (o ≡ None) × (told ≡ Some r)
read_gives number None told r h = (refl, h)
read_gives number (Some fault) told r h = absurd (cc)

-- ---- what is left in a state
pub left_rows : {A : Type 0} (f : A → Told) (state : ReaderState) (o : Option A) (told : Told) → state ≡ Rows → left_at state (option_map f o) ≡ Some told → (left : A) × (o ≡ Some left) × (told ≡ f left)
left_rows {A = A} f state o told s h = by_left o (sym (ap (λ t. left_at t (option_map f o)) s) ∙ h)
  where
    by_left : (o : Option A) → option_map f o ≡ Some told → (left : A) × (o ≡ Some left) × (told ≡ f left)
    by_left None h = absurd (cc)
    by_left (Some left) h = (left, refl, cc)

pub rows_left : {A : Type 0} (f : A → Told) (state : ReaderState) (o : Option A) (left : A) → state ≡ Rows → o ≡ Some left → left_at state (option_map f o) ≡ Some (f left)
rows_left f state o left s h = ap (λ t. left_at t (option_map f o)) s ∙ ap (option_map f) h

-- records that are left still tell the same
pub keeps_told : (f : List (List (List ℕ)) → Told) (state : ReaderState) (old new : Option (List (List (List ℕ)))) (told : Told) → state ≡ Rows → KeepsRecords old new → left_at state (option_map f old) ≡ Some told → left_at state (option_map f new) ≡ Some told
keeps_told f state old new told s keeps h =
    let left = left_rows f state old told s h in
    rows_left f state new left.0 s (keeps left.0 left.1) ∙ ap (λ (t : Told). Some t) (sym left.2)

pub gives_next : (told : Told) (answer : Result (Option Row) TraceError) (state : ReaderState) (o : Option Told) → state ≡ Rows → HoldsUnlessFailed answer (GivesFirstOr told.rows told.refusal answer (left_at state o)) → GivesNext told answer (left_at (state_after answer) o)
gives_next told answer state o s (inl h) = inl h
gives_next told answer state o s (inr (inl h)) = inr (inl h)
gives_next told answer state o s (inr (inr h)) = inr (inr (by_rows told.rows told.refusal h))
  where
    by_rows : (rows : List Row) (refusal : Option TraceError) → GivesFirstOr rows refusal answer (left_at state o) → GivesFirst rows refusal answer (left_at (state_after answer) o)
    by_rows (r ∷ rows) refusal h = (h.0, ap (λ a. left_at (state_after a) o) h.0 ∙ (sym (ap (λ t. left_at t o) s) ∙ h.1))
    by_rows [] None h = (h, ap (λ a. left_at (state_after a) o) h)
    by_rows [] (Some refusal) h = h

-- ---- answers
-- a reader whose first record tells a version, and that has left what the records after it tell
pub opens_some : {R : Type 0} (remaining : R → Option (List ℕ)) (plan : PlanModel) (records : List (List (List ℕ))) (fields : List (List ℕ)) (rest : List (List (List ℕ))) (version : TextVersion) (reader : TraceReader R)
    → records ≡ fields ∷ rest → version_told plan fields ≡ Some version → told_left remaining reader ≡ Some (told_after version plan 1 rest) → Opens remaining plan records (Ok reader)
opens_some remaining plan records fields rest version reader e v t =
    let first : version_of plan records ≡ Some version = ap (version_of plan) e ∙ (version_first plan fields rest ∙ v) in
    let due : told_left remaining reader ≡ Some (rows_of plan records) = t ∙ ap (λ x. Some x) (sym (ap (rows_of plan) e ∙ rows_first plan fields rest version v)) in
    rw first (inr (inr due))

-- one whose first record tells none, or that has no record
pub opens_none : {R : Type 0} (remaining : R → Option (List ℕ)) (plan : PlanModel) (records : List (List (List ℕ))) → version_of plan records ≡ None → Opens {R = R} remaining plan records (Err (At Head 1))
opens_none remaining plan records e = rw e (inr (inr refl))

-- the refusal of the next record
pub answers_refusal : (version : TextVersion) (plan : PlanModel) (n number : ℕ) (left rest : List (List (List ℕ))) (fields : List (List ℕ)) (told : Told) (read : Result Row TraceError) (e : TraceError) (answer : Result (Option Row) TraceError) (after : Option Told)
    → told ≡ told_after version plan n left → left ≡ fields ∷ rest → ReadsAt number (row_fault version plan fields) (row_told version plan fields) read → read ≡ Err e → number ≡ n + 1 → answer ≡ Err e
    → HoldsUnlessFailed answer (GivesFirstOr told.rows told.refusal answer after)
answers_refusal version plan n number left rest fields told read e answer after t l reads is at a =
    let refused = read_refuses number (row_fault version plan fields) (row_told version plan fields) e (subst (ReadsAt number (row_fault version plan fields) (row_told version plan fields)) is reads) in
    let all : told ≡ record { rows = []; refusal = Some (At refused.0 (n + 1)) } = t ∙ (ap (told_after version plan n) l ∙ told_refused version plan n fields rest refused.0 refused.1) in
    let same : answer ≡ Err (At refused.0 (n + 1)) = a ∙ (ap (λ x. Err x) refused.2 ∙ ap (λ k. Err (At refused.0 k)) at) in
    let P : Told → Type 0 = λ x. GivesFirstOr x.rows x.refusal answer after in
    inr (inr (subst P (sym all) same))

-- the row of the next record
pub answers_row : (version : TextVersion) (plan : PlanModel) (n number : ℕ) (left rest : List (List (List ℕ))) (fields : List (List ℕ)) (told : Told) (read : Result Row TraceError) (r : Row) (after : Option Told)
    → told ≡ told_after version plan n left → left ≡ fields ∷ rest → ReadsAt number (row_fault version plan fields) (row_told version plan fields) read → read ≡ Ok r → number ≡ n + 1 → after ≡ Some (told_after version plan number rest)
    → HoldsUnlessFailed (Ok (Some r)) (GivesFirstOr told.rows told.refusal (Ok (Some r)) after)
answers_row version plan n number left rest fields told read r after t l reads is at a =
    let gives = read_gives number (row_fault version plan fields) (row_told version plan fields) r (subst (ReadsAt number (row_fault version plan fields) (row_told version plan fields)) is reads) in
    let next = told_after version plan (n + 1) rest in
    let all : told ≡ record { rows = r ∷ next.rows; refusal = next.refusal } = t ∙ (ap (told_after version plan n) l ∙ told_more version plan n fields rest r gives.0 gives.1) in
    let P : Told → Type 0 = λ x. GivesFirstOr x.rows x.refusal (Ok (Some r)) after in
    inr (inr (subst P (sym all) (refl, a ∙ ap (λ k. Some (told_after version plan k rest)) at)))

-- the end
pub answers_end : (version : TextVersion) (plan : PlanModel) (n : ℕ) (left : List (List (List ℕ))) (told : Told) (after : Option Told) → told ≡ told_after version plan n left → left ≡ [] → HoldsUnlessFailed {A = Option Row} (Ok None) (GivesFirstOr told.rows told.refusal (Ok None) after)
answers_end version plan n left told after t l =
    let all : told ≡ nothing_left = t ∙ (ap (told_after version plan n) l ∙ told_end version plan n) in
    let P : Told → Type 0 = λ x. GivesFirstOr x.rows x.refusal (Ok None) after in
    inr (inr (subst P (sym all) refl))

-- the end again
pub ended_again : (told : Told) (answer : Result (Option Row) TraceError) (state new : ReaderState) (o p : Option Told) → state ≡ Ended → left_at state o ≡ Some told → answer ≡ Ok None → new ≡ state_after answer → GivesNext told answer (left_at new p)
ended_again told answer state new o p s h a n =
    let all : told ≡ nothing_left = let e : Some nothing_left ≡ Some told = sym (ap (λ t. left_at t o) s) ∙ h in cc in
    let after : left_at new p ≡ Some nothing_left = ap (λ t. left_at t p) (n ∙ ap state_after a) in
    let P : Told → Type 0 = λ x. GivesFirst x.rows x.refusal answer (left_at new p) in
    inr (inr (subst P (sym all) (a, after)))

-- nothing is left of a reader that has refused
pub failed_left : (told : Told) (state : ReaderState) (o : Option Told) → state ≡ Failed → left_at state o ≡ Some told → ⊥
failed_left told state o s h = let e : None ≡ Some told = sym (ap (λ t. left_at t o) s) ∙ h in cc
