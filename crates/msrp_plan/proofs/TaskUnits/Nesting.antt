-- How units nest: one unit more, and what is held by how often each resource was locked and
-- unlocked.
use Rattle.msrp_plan.specs.Common.{ℕ, suc, zero, nat_eq, Bool, true, false, cond, List, [], length, take, replicate, Option, Some, None, count_by, list_any, option_and_then, PlanModel, locks, unlocks, is_lock_of, is_unlock_of, held_with, held_after, IsLocking, IsNestedAt}
use Rattle.msrp_plan.specs.declared.ids.ResId.{ResId}
use Rattle.msrp_plan.specs.declared.units.Op.{Op}
use Rattle.std.proofs.Common.{◌≡◌, ◌+◌, ◌<◌, ◌≤◌, ◌==◌, ◌∷◌, ◌++◌, ◌⊎◌, refl, ap, sym, subst, ◌∙◌, inl, inr, arith, eqb-true, append_assoc}
use Rattle.std.specs.List.{fold, slice_get}
use Rattle.std.proofs.lemmas.Bool.{cases_lt, or_parts}
use Rattle.std.proofs.lemmas.Option.{same_Some, none-some}
use Rattle.std.proofs.lemmas.List.{take_all, take-append-le, length-append, append-nil}
use Rattle.std.proofs.lemmas.List.Folds.{fold_stays}
use Rattle.std.proofs.lemmas.List.Sums.{fold_push, sum_by-cons}
use Rattle.msrp_plan.specs.declared.units.Op.TheVariants.{Run, Lock, Unlock}

abbrev pub held_step : Option (List ℕ) → Op → Option (List ℕ)
held_step held u = option_and_then (λ hs. held_with hs u) held

-- how often a resource is held
abbrev pub held_times : ℕ → List ℕ → ℕ
held_times g held = count_by (λ h. h == g) held

-- one unit more
pub held_push : (us : List Op) (u : Op) (held : List ℕ) → held_after us ≡ Some held → held_after (us ++ u ∷ []) ≡ held_with held u
held_push us u held e = fold_push held_step (Some []) us u ∙ ap (λ o. held_step o u) e

-- units that don't nest never nest again
stuck : (us : List Op) (held : List ℕ) → fold held_step None us ≡ Some held → ⊥
stuck us held e = none-some held (sym (fold_stays held_step None (λ u. refl) us) ∙ e)

-- what doesn't stand in a list isn't held
absent : (g : ℕ) (held : List ℕ) → list_any (nat_eq g) held ≡ false → held_times g held ≡ 0
absent g [] e = refl
absent g (h ∷ held) e =
    let parts = or_parts (nat_eq g h) (list_any (nat_eq g) held) e in
    let rest = absent g held parts.1 in
    let first = sum_by-cons (λ k. cond (k == g) 1 0) h held in
    grind arith

-- how often a resource is held, by how often it was locked and unlocked since; none is held twice
record Balance (g : ℕ) (us : List Op) (before held : List ℕ) : Type 0 where
  even : locks g us + held_times g before ≡ unlocks g us + held_times g held
  once : held_times g held ≤ 1

-- one unit more at the front
front : (g : ℕ) (u : Op) (us : List Op) (before next held : List ℕ) → held_with before u ≡ Some next
    → cond (is_lock_of g u) 1 0 + held_times g before ≡ cond (is_unlock_of g u) 1 0 + held_times g next → Balance g us next held → Balance g (u ∷ us) before held
front g u us before next held e here rest =
    let a : locks g (u ∷ us) ≡ cond (is_lock_of g u) 1 0 + locks g us = sum_by-cons (λ v. cond (is_lock_of g v) 1 0) u us in
    let b : unlocks g (u ∷ us) ≡ cond (is_unlock_of g u) 1 0 + unlocks g us = sum_by-cons (λ v. cond (is_unlock_of g v) 1 0) u us in
    record { even = omega (arith, a, b, here, rest.even); once = rest.once }

-- a resource that isn't held is held once where it is locked
one_more : (g r : ℕ) (before : List ℕ) (b : Bool) → r == g ≡ b → list_any (nat_eq r) before ≡ false → held_times g before ≤ 1 → held_times g (r ∷ before) ≤ 1
one_more g r before true is fresh once =
    let first : held_times g (r ∷ before) ≡ cond (r == g) 1 0 + held_times g before = sum_by-cons (λ h. cond (h == g) 1 0) r before in
    let none : held_times g before ≡ 0 = subst (λ k. held_times k before ≡ 0) (eqb-true r g is) (absent r before fresh) in
    let unit : cond {A = ℕ} (r == g) 1 0 ≡ 1 = ap (λ c. cond c 1 0) is in
    omega (arith, first, none, unit)
one_more g r before false is fresh once =
    let first : held_times g (r ∷ before) ≡ cond (r == g) 1 0 + held_times g before = sum_by-cons (λ h. cond (h == g) 1 0) r before in
    let unit : cond {A = ℕ} (r == g) 1 0 ≡ 0 = ap (λ c. cond c 1 0) is in
    omega (arith, first, unit)

-- what is shown of the units after the first, whatever is held before them
abbrev Rest : ℕ → List Op → List ℕ → Type 0
Rest g us held = (next : List ℕ) → held_times g next ≤ 1 → fold held_step (Some next) us ≡ Some held → Balance g us next held

after_lock : (g : ℕ) (r : ResId) (us : List Op) (before held : List ℕ) (b : Bool) → held_times g before ≤ 1 → list_any (nat_eq r.0) before ≡ b
    → fold held_step (cond b None (Some (r.0 ∷ before))) us ≡ Some held → Rest g us held → Balance g (Lock r ∷ us) before held
after_lock g r us before held true once is e rest = absurd (stuck us held e)
after_lock g r us before held false once is e rest =
    let first : held_times g (r.0 ∷ before) ≡ cond (r.0 == g) 1 0 + held_times g before = sum_by-cons (λ h. cond (h == g) 1 0) r.0 before in
    front g (Lock r) us before (r.0 ∷ before) held (ap (λ c. cond c None (Some (r.0 ∷ before))) is) (omega (arith, first)) (rest (r.0 ∷ before) (one_more g r.0 before (r.0 == g) refl is once) e)

after_unlock : (g : ℕ) (r : ResId) (us : List Op) (h : ℕ) (before held : List ℕ) (b : Bool) → held_times g (h ∷ before) ≤ 1 → r.0 == h ≡ b
    → fold held_step (cond b (Some before) None) us ≡ Some held → Rest g us held → Balance g (Unlock r ∷ us) (h ∷ before) held
after_unlock g r us h before held false once is e rest = absurd (stuck us held e)
after_unlock g r us h before held true once is e rest =
    let first : held_times g (h ∷ before) ≡ cond (h == g) 1 0 + held_times g before = sum_by-cons (λ k. cond (k == g) 1 0) h before in
    let unit : cond {A = ℕ} (r.0 == g) 1 0 ≡ cond (h == g) 1 0 = ap (λ x. cond (x == g) 1 0) (eqb-true r.0 h is) in
    front g (Unlock r) us (h ∷ before) before held (ap (λ c. cond c (Some before) None) is) (omega (arith, first, unit)) (rest before (omega (arith, first)) e)

balance : (g : ℕ) (us : List Op) (before held : List ℕ) → held_times g before ≤ 1 → fold held_step (Some before) us ≡ Some held → Balance g us before held
balance g [] before held once e = let s : before ≡ held = same_Some before held e in subst (λ h. Balance g [] before h) s (record { even = refl; once = once })
balance g (Run ∷ us) before held once e = front g Run us before before held refl refl (balance g us before held once e)
balance g (Lock r ∷ us) before held once e = after_lock g r us before held (list_any (nat_eq r.0) before) once refl e (λ next. balance g us next held)
balance g (Unlock r ∷ us) [] held once e = absurd (stuck us held e)
balance g (Unlock r ∷ us) (h ∷ before) held once e = after_unlock g r us h before held (r.0 == h) once refl e (λ next. balance g us next held)

-- how often a resource is held after units that nest
pub record IsEven (g : ℕ) (us : List Op) (held : List ℕ) : Type 0 where
  pub even : locks g us ≡ unlocks g us + held_times g held
  pub once : held_times g held ≤ 1

pub even_after : (g : ℕ) (us : List Op) (held : List ℕ) → held_after us ≡ Some held → IsEven g us held
even_after g us held e =
    let b = balance g us [] held (omega arith) e in
    let n : held_times g [] ≡ 0 = refl in
    record { even = omega (arith, b.even, n); once = b.once }

-- what nests alternates
pub locking : (plan : PlanModel) (us : List Op) → ((n : ℕ) (g : ResId) → slice_get us n ≡ Some (Lock g) → g.0 < length plan.resources) → ((n : ℕ) → IsNestedAt us n) → IsLocking plan us
locking plan us declared nested = record {
  declared = declared;
  below = λ n g. let at = nested n in let e = even_after g (take n us) at.0 at.1 in omega (arith, e.even);
  once = λ n g. let at = nested n in let e = even_after g (take n us) at.0 at.1 in omega (arith, e.even, e.once);
  nested = nested;
}

-- units that lock as they may, and what is held after them
pub record IsHeld (plan : PlanModel) (us : List Op) (held : List ℕ) : Type 0 where
  pub locking : IsLocking plan us
  pub after : held_after us ≡ Some held

-- at most eight are held
pub held_few : (plan : PlanModel) (us : List Op) (held : List ℕ) → IsHeld plan us held → length held ≤ 8
held_few plan us held h =
    let at = h.locking.nested (length us) in
    let whole : take (length us) us ≡ us = take_all (length us) us (omega arith) in
    let e : held_after us ≡ Some at.0 = subst (λ vs. held_after vs ≡ Some at.0) whole at.1 in
    let same : held ≡ at.0 = same_Some held at.0 (sym h.after ∙ e) in
    subst (λ hs. length hs ≤ 8) (sym same) at.2

-- a place in a list with one more at the end
place_push : {X : Type 0} (xs : List X) (y x : X) (n : ℕ) → slice_get (xs ++ y ∷ []) n ≡ Some x → (slice_get xs n ≡ Some x) ⊎ (y ≡ x)
place_push [] y x zero e = inr (same_Some y x e)
place_push [] y x (suc n) e = inl e
place_push (z ∷ xs) y x zero e = inl e
place_push (z ∷ xs) y x (suc n) e = place_push xs y x n e

-- one unit more
nested_push : (us : List Op) (u : Op) (held next : List ℕ) → ((n : ℕ) → IsNestedAt us n) → held_after us ≡ Some held → held_with held u ≡ Some next → length next ≤ 8 → (n : ℕ) → IsNestedAt (us ++ u ∷ []) n
nested_push us u held next nested after step few n = elim (cases_lt (length us) n) [
  | inl past ↦
      let whole : take n (us ++ u ∷ []) ≡ us ++ u ∷ [] = take_all n (us ++ u ∷ []) (let k = length-append us (u ∷ []) in omega (arith, k, past)) in
      (next, ap held_after whole ∙ held_push us u held after ∙ step, few)
  | inr within ↦
      let at = nested n in
      (at.0, ap held_after (take-append-le n us (u ∷ []) within) ∙ at.1, at.2)
]

pub locks_push : (plan : PlanModel) (us : List Op) (u : Op) (held next : List ℕ) → IsHeld plan us held → held_with held u ≡ Some next → length next ≤ 8
    → ((g : ResId) → u ≡ Lock g → g.0 < length plan.resources) → IsHeld plan (us ++ u ∷ []) next
locks_push plan us u held next h step few known = record {
  locking = locking plan (us ++ u ∷ []) (λ n g e. elim (place_push us u (Lock g) n e) [ inl before ↦ h.locking.declared n g before | inr last ↦ known g last ])
      (nested_push us u held next h.locking.nested h.after step few);
  after = held_push us u held h.after ∙ step;
}

no_lock : (g : ResId) → Run ≡ Lock g → ⊥
no_lock g e = cc

-- any number of units of work more
pub runs_push : (plan : PlanModel) (n : ℕ) (us : List Op) (held : List ℕ) → IsHeld plan us held → IsHeld plan (us ++ replicate n Run) held
runs_push plan zero us held h = subst (λ vs. IsHeld plan vs held) (sym (append-nil us)) h
runs_push plan (suc n) us held h =
    subst (λ vs. IsHeld plan vs held) (append_assoc us (Run ∷ []) (replicate n Run))
    (runs_push plan n (us ++ Run ∷ []) held (locks_push plan us Run held held h refl (held_few plan us held h) (λ g e. absurd (no_lock g e))))

-- the same units where more resources are declared
pub locks_wider : (plan more : PlanModel) (us : List Op) → length plan.resources ≤ length more.resources → IsLocking plan us → IsLocking more us
locks_wider plan more us wider h = locking more us (λ n g e. let k = h.declared n g e in omega (arith, k)) h.nested

-- no units
pub locks_none : (plan : PlanModel) → IsLocking plan []
locks_none plan = locking plan [] (λ n g e. absurd (none-some (Lock g) e)) (λ n. ([], nothing n, omega arith))
  where
    nothing : (n : ℕ) → held_after (take n []) ≡ Some []
    nothing zero = refl
    nothing (suc n) = refl
