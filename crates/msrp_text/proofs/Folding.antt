-- The plan of a list of records, record by record.
use Rattle.std.proofs.Common.{◌≡◌, ◌⊎◌, ◌+◌, ◌∷◌, ◌++◌, ◌∙◌}
use Rattle.msrp_plan.proofs.Common.{ℕ, Bool, true, false, List, [], Option, Some, None, Result, Ok, Err, length, take, refl, sym, ap, inl, inr, arith, append_assoc, append-nil, length-append, suc, filter_map, range_with_len, take-append_seam, take_all, fold-append, slice_get_past, PlanModel}
use Rattle.msrp_plan.specs.declared.faults.PlanFault.{PlanFault}
use Rattle.std.specs.Result.{result_and}
use Rattle.std.specs.List.{slice_get}
use Rattle.msrp_plan.specs.Building.{empty_plan}
use Rattle.msrp_plan.specs.declared.faults.PlanFault.TheVariants as want
use Rattle.msrp_text.specs.Reading.{Answers, fault_after, first_or, number_told, plan_of, plan_told, refusal_at, version_told, with_record}
use Rattle.msrp_text.specs.Positions.{IsTaken, IsTakenAt, refusal, position_fault, position_plan, position_with}
use Rattle.msrp_text.specs.Records.{GivesNext}
use Rattle.msrp_text.proofs.Remaining.{gave-none, gave-one}
use Rattle.msrp_text.specs.declared.positions.Position.{Position}
use Rattle.msrp_text.specs.declared.positions.Position.TheVariants.{Version, Cores, Ticks, Body}
use Rattle.msrp_text.specs.declared.reading.TextError.{TextError}
use Rattle.msrp_text.specs.declared.reading.TextError.TheVariants.{At, Memory}

-- what is due at a record of that number: its refusal, or what comes of it
abbrev pub numbered : {A : Type 0} → Option PlanFault → ℕ → A → Result A TextError
numbered None number next = Ok next
numbered (Some fault) number next = Err (At fault number)

abbrev pub going : Result Position TextError → (Position → Result PlanModel TextError) → Result PlanModel TextError
going (Ok position) next = next position
going (Err e) next = Err e

-- the plan of the records that are left at a position, or the first refusal of one of them
unfoldable pub plan_from : Position → ℕ → List (List (List ℕ)) → Result PlanModel TextError
plan_from position number [] = numbered (position_fault position None) number (position_plan position)
plan_from position number (row ∷ rest) = going (numbered (position_fault position (Some row)) number (position_with position row)) (λ next. plan_from next (number + 1) rest)

-- the position after these records, if none is refused
unfoldable position_of : List (List (List ℕ)) → Position
position_of [] = Version
position_of (version ∷ []) = Cores (version_told version)
position_of (version ∷ cores ∷ []) = Ticks (version_told version) (number_told cores 1)
position_of (version ∷ cores ∷ ticks ∷ rest) = Body (version_told version) (plan_told (version ∷ cores ∷ ticks ∷ rest))

-- the rule that is broken after these records is the one broken at their position
fault-at : (before : List (List (List ℕ))) (next : Option (List (List ℕ))) → fault_after before next ≡ position_fault (position_of before) next
unfolding fault_after position_fault position_of
fault-at [] next = refl
fault-at (version ∷ []) next = refl
fault-at (version ∷ cores ∷ []) next = refl
fault-at (version ∷ cores ∷ ticks ∷ rest) next = refl

-- one more record
position-more : (before : List (List (List ℕ))) (row : List (List ℕ)) → position_of (before ++ (row ∷ [])) ≡ position_with (position_of before) row
unfolding position_of position_with plan_told
position-more [] row = refl
position-more (version ∷ []) row = refl
position-more (version ∷ cores ∷ []) row = refl
position-more (version ∷ cores ∷ ticks ∷ rest) row = ap (λ (plan : PlanModel). Body (version_told version) plan) (fold-append with_record (empty_plan (number_told cores 1) (number_told ticks 1)) rest (row ∷ []))

pub slice_get-seam : {X : Type 0} (xs ys : List X) (y : X) → slice_get (xs ++ (y ∷ ys)) (length xs) ≡ Some y
slice_get-seam [] ys y = refl
slice_get-seam (x ∷ xs) ys y = slice_get-seam xs ys y

-- the refusal of the record that follows these
refusal-seam : (before : List (List (List ℕ))) (row : List (List ℕ)) (rest : List (List (List ℕ))) (f : Option PlanFault) → position_fault (position_of before) (Some row) ≡ f
    → fault_after (take (length before) (before ++ (row ∷ rest))) (slice_get (before ++ (row ∷ rest)) (length before)) ≡ f
refusal-seam before row rest f e = rw (take-append_seam before (row ∷ rest), slice_get-seam before rest row) (fault-at before (Some row) ∙ e)

-- the refusal of the end
refusal-end : (before : List (List (List ℕ))) (f : Option PlanFault) → position_fault (position_of before) None ≡ f
    → fault_after (take (length before) before) (slice_get before (length before)) ≡ f
refusal-end before f e = rw (take_all (length before) before (omega arith), slice_get_past before (length before) (omega arith)) (fault-at before None ∙ e)

end-plan : (before : List (List (List ℕ))) → position_fault (position_of before) None ≡ None → position_plan (position_of before) ≡ plan_told before
unfolding position_fault position_of position_plan
end-plan [] e = cc
end-plan (version ∷ []) e = cc
end-plan (version ∷ cores ∷ []) e = cc
end-plan (version ∷ cores ∷ ticks ∷ rest) e = refl

end-law : (before : List (List (List ℕ))) (f : Option PlanFault) → position_fault (position_of before) None ≡ f
    → first_or (filter_map (refusal_at before) (length before ∷ [])) (plan_told before) ≡ numbered (position_fault (position_of before) None) (length before + 1) (position_plan (position_of before))
end-law before None e = rw (refusal-end before None e, e) (ap (λ (plan : PlanModel). Ok plan) (sym (end-plan before e)))
end-law before (Some fault) e = rw (refusal-end before (Some fault) e, e) refl

range-more : (a n : ℕ) → range_with_len a (suc n + 1) ≡ a ∷ range_with_len (a + 1) (n + 1)
range-more a n = let k : suc n + 1 ≡ suc (n + 1) = omega arith in rw k refl

-- the first refusal from the record after these on, or the plan of all
first_from : List (List (List ℕ)) → List (List (List ℕ)) → Result PlanModel TextError
first_from before left = first_or (filter_map (refusal_at (before ++ left)) (range_with_len (length before) (length left + 1))) (plan_told (before ++ left))

-- a record that isn't refused stands among those before
first-next : (before : List (List (List ℕ))) (row : List (List ℕ)) (rest : List (List (List ℕ))) → position_fault (position_of before) (Some row) ≡ None → first_from before (row ∷ rest) ≡ first_from (before ++ (row ∷ [])) rest
unfolding first_from
first-next before row rest e =
    let size : length (before ++ (row ∷ [])) ≡ length before + 1 = length-append before (row ∷ []) in
    rw (range-more (length before) (length rest), refusal-seam before row rest None e, append_assoc before (row ∷ []) rest, size) refl

-- a record that is refused
first-refused : (before : List (List (List ℕ))) (row : List (List ℕ)) (rest : List (List (List ℕ))) (fault : PlanFault) → position_fault (position_of before) (Some row) ≡ Some fault
    → first_from before (row ∷ rest) ≡ Err (At fault (length before + 1))
unfolding first_from
first-refused before row rest fault e = rw (range-more (length before) (length rest), refusal-seam before row rest (Some fault) e) refl

next-law : (before : List (List (List ℕ))) (row : List (List ℕ)) (rest : List (List (List ℕ))) (f : Option PlanFault) → position_fault (position_of before) (Some row) ≡ f
    → first_from (before ++ (row ∷ [])) rest ≡ plan_from (position_of (before ++ (row ∷ []))) (length (before ++ (row ∷ [])) + 1) rest
    → first_from before (row ∷ rest) ≡ plan_from (position_of before) (length before + 1) (row ∷ rest)
unfolding plan_from
next-law before row rest None e later =
    let size : length (before ++ (row ∷ [])) ≡ length before + 1 = length-append before (row ∷ []) in
    first-next before row rest e ∙ later ∙ rw (position-more before row, size, e) refl
next-law before row rest (Some fault) e later = first-refused before row rest fault e ∙ rw e refl

-- the first refusal from the record after these on is the one that a reader of the records meets
plan-law : (before left : List (List (List ℕ))) → first_from before left ≡ plan_from (position_of before) (length before + 1) left
unfolding plan_from first_from
plan-law before [] = rw (append-nil before) (end-law before _ refl)
plan-law before (row ∷ rest) = next-law before row rest _ refl (plan-law (before ++ (row ∷ [])) rest)

-- the plan of all records is read from the first one on
pub plan-begins : (records : List (List (List ℕ))) → plan_of records ≡ plan_from Version 1 records
unfolding plan_of first_from position_of
plan-begins records = plan-law [] records

-- what is told of a record is what is due, but for want of memory
refusal-is : (fault : PlanFault) (number : ℕ) → (refusal fault number ≡ Memory) ⊎ (refusal fault number ≡ At fault number)
refusal-is want.Memory number = inl refl
refusal-is _ number = inr refl

-- a position that is taken, and one that is refused
pub taken-ok : {A : Type 0} (o : Option PlanFault) (number : ℕ) (next x : A) → IsTaken o next (Ok x) → IsTakenAt o number next (Ok x)
taken-ok None number next x (inl h) = absurd (cc)
taken-ok None number next x (inr h) = inr (ap (λ n. Ok n) (let e : x ≡ next = cc in e))
taken-ok (Some fault) number next x h = absurd (cc)

pub taken-refused : {A : Type 0} (o : Option PlanFault) (number : ℕ) (next : A) (fault : PlanFault) → IsTaken o next (Err fault) → IsTakenAt o number next (Err (refusal fault number))
taken-refused None number next fault (inl h) = let e : fault ≡ want.Memory = cc in inl (ap (λ f. Err (refusal f number)) e)
taken-refused None number next fault (inr h) = absurd (cc)
taken-refused (Some due) number next fault h = let e : fault ≡ due = cc in ap (λ f. Err (refusal f number)) e

-- a record that is taken or refused, as it is told with the position after it
pub taken-on : {A U : Type 0} (o : Option PlanFault) (number : ℕ) (next new : A) (r : Result U TextError) (u : U) → IsTakenAt o number next (result_and r (Ok new)) → r ≡ Ok u → IsTakenAt o number next (Ok new)
taken-on o number next new r u h e = rw e at h

pub refused-on : {A U : Type 0} (o : Option PlanFault) (number : ℕ) (next new : A) (r : Result U TextError) (e : TextError) → IsTakenAt o number next (result_and r (Ok new)) → r ≡ Err e → IsTakenAt o number next (Err e)
refused-on o number next new r e h k = rw k at h

-- the plan from a position on, where its next record is taken, and where it is refused
going-on : (o : Option PlanFault) (number : ℕ) (due next : Position) (rest : Position → Result PlanModel TextError) → IsTakenAt o number due (Ok next) → going (numbered o number due) rest ≡ rest next
going-on None number due next rest (inl memory) = cc
going-on None number due next rest (inr is) = let same : next ≡ due = cc in rw same refl
going-on (Some fault) number due next rest h = cc

going-refused : (o : Option PlanFault) (number : ℕ) (due : Position) (e : TextError) (rest : Position → Result PlanModel TextError) → IsTakenAt o number due (Err e) → Answers (Err e) (going (numbered o number due) rest)
going-refused None number due e rest (inl memory) = let same : e ≡ Memory = cc in inr (inl (ap (λ x. Err x) same))
going-refused None number due e rest (inr is) = cc
going-refused (Some fault) number due e rest h = let same : e ≡ refusal fault number = cc in elim (refusal-is fault number) [
  | inl memory ↦ inr (inl (ap (λ x. Err x) (same ∙ memory)))
  | inr is ↦ inr (inr (ap (λ x. Err x) (same ∙ is)))
]

pub plan-goes : (position next : Position) (number : ℕ) (left : List (List (List ℕ))) (found : Bool) (row : List (List ℕ)) (after : Option (List (List (List ℕ)))) (all : Result PlanModel TextError)
    → plan_from position number left ≡ all → GivesNext left found row after → found ≡ true → IsTakenAt (position_fault position (Some row)) number (position_with position row) (Ok next)
    → (others : List (List (List ℕ))) × (after ≡ Some others) × (plan_from next (number + 1) others ≡ all) × (length left ≡ length others + 1)
unfolding plan_from
plan-goes position next number left found row after all h gives is taken =
    let one = gave-one left found row after gives is in
    let size = ap length one.1 in
    (one.0, one.2, sym (going-on _ number _ next (λ x. plan_from x (number + 1) one.0) taken) ∙ (rw one.1 at h), omega (arith, size))

pub plan-refused : (position : Position) (number : ℕ) (left : List (List (List ℕ))) (found : Bool) (row : List (List ℕ)) (after : Option (List (List (List ℕ)))) (e : TextError) (all : Result PlanModel TextError)
    → plan_from position number left ≡ all → GivesNext left found row after → found ≡ true → IsTakenAt (position_fault position (Some row)) number (position_with position row) (Err e) → Answers (Err e) all
unfolding plan_from
plan-refused position number left found row after e all h gives is taken =
    let one = gave-one left found row after gives is in
    rw (sym (rw one.1 at h)) (going-refused _ number _ e (λ x. plan_from x (number + 1) one.0) taken)

-- the end of the records
taken-answers : (o : Option PlanFault) (number : ℕ) (due : PlanModel) (r : Result PlanModel TextError) → IsTakenAt o number due r → Answers r (numbered o number due)
taken-answers None number due r (inl memory) = inr (inl memory)
taken-answers None number due r (inr is) = inr (inr is)
taken-answers (Some fault) number due r h = elim (refusal-is fault number) [
  | inl memory ↦ inr (inl (h ∙ ap (λ x. Err x) memory))
  | inr is ↦ inr (inr (h ∙ ap (λ x. Err x) is))
]

pub plan-ends : (position : Position) (number : ℕ) (left : List (List (List ℕ))) (found : Bool) (row : List (List ℕ)) (after : Option (List (List (List ℕ)))) (r s : Result PlanModel TextError) (all : Result PlanModel TextError)
    → plan_from position number left ≡ all → GivesNext left found row after → found ≡ false → IsTakenAt (position_fault position None) number (position_plan position) r → r ≡ s → Answers s all
unfolding plan_from
plan-ends position number left found row after r s all h gives is taken e =
    rw (← e, sym (rw (gave-none left found row after gives is) at h)) (taken-answers _ number _ r taken)
