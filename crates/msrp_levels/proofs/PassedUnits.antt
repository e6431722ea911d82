-- The units of a task, passed from the last one back.
use Rattle.std.proofs.Common.{◌≡◌, ◌≢◌, ◌+◌, ◌-◌, ◌^◌, ◌<◌, ◌≤◌, ◌==◌, ◌||◌, ◌∷◌, ◌∙◌}
use Rattle.msrp_plan.proofs.Common.{ℕ, Bool, true, false, cond, List, [], max, drop, take, set, replicate, slice_get, get_or, Some, refl, ap, sym, inl, inr, arith, length, eqb-true, eq-eqb, list_any, true≢false, cases_eq, true_from_ne_false, length-set, get_or-set_same, get_or-set_other, drop_more, drop_all, get_or-map-range_with_len, length-map-range_with_len, length-filter, sum_by-take-le, slice_get_within, get_or_from_slice_get, PlanModel, is_lock_of, is_unlock_of, locks, unlocks, IsLocking, to_unlock, longest_section, none_kept, not_equal}
use Rattle.msrp_plan.specs.declared.units.Op.{Op}
use Rattle.msrp_plan.specs.declared.ids.ResId.{ResId}
use Rattle.std.proofs.lemmas.List.{ext_get_or}
use Rattle.msrp_plan.specs.declared.units.Op.TheVariants.{Run, Lock, Unlock}
use Rattle.msrp_plan.proofs.TaskUnits.UnitCounts.{count_next}
use Rattle.msrp_plan.proofs.Levels.GlobalUse.{passing_place}
use Rattle.msrp_levels.specs.declared.footprints.Use.{Use}
use Rattle.msrp_levels.proofs.Gathered.{map_constant}
use Rattle.msrp_levels.specs.Footprints.{use_from, uses_from, with_lock, with_unlock, unused, use_at, passed, CanPass}

-- ---- the resource of a unit is declared
-- what is locked is declared
pub lock_below : (plan : PlanModel) (us : List Op) (g : ℕ) → IsLocking plan us → list_any (is_lock_of g) us ≡ true → g < length plan.resources
lock_below plan us g locking e = let at = passing_place (is_lock_of g) us e in by_unit at.0 at.1 at.2 at.3
  where
    by_unit : (n : ℕ) (u : Op) → slice_get us n ≡ Some u → is_lock_of g u ≡ true → g < length plan.resources
    by_unit n Run at hit = absurd (true≢false (sym hit))
    by_unit n (Lock r) at hit = let k = locking.declared n r at in let e = eqb-true r.0 g hit in omega (arith, k, e)
    by_unit n (Unlock r) at hit = absurd (true≢false (sym hit))

-- what is unlocked was locked before
unlock_below : (plan : PlanModel) (us : List Op) (n g : ℕ) (u : Op) → IsLocking plan us → slice_get us n ≡ Some u → is_unlock_of g u ≡ true → g < length plan.resources
unlock_below plan us n g u locking at hit =
    let a : unlocks g (take (n + 1) us) ≡ unlocks g (take n us) + 1 = count_next (is_unlock_of g) us n u at ∙ ap (λ b. unlocks g (take n us) + cond b 1 0) hit in
    let b = locking.below (n + 1) g in
    let d : locks g (take (n + 1) us) ≤ locks g us = sum_by-take-le (λ x. cond (is_lock_of g x) 1 0) us (n + 1) in
    lock_below plan us g locking (true_from_ne_false (list_any (is_lock_of g) us) (λ none.
    let f = length-filter (is_lock_of g) us in
    let e = ap length (none_kept (is_lock_of g) (is_lock_of g) (λ x h. h) us none) in
    absurd (omega (arith, a, b, d, f, e))))

-- ---- one unit more
-- what a unit makes of what a task does with a resource
abbrev after_unit : ℕ → ℕ → Op → Use → Use
after_unit n g u x = record {
  locked = is_lock_of g u || x.locked;
  longest = max (cond (is_lock_of g u) (x.past_unlock - (n + 1)) 0) x.longest;
  past_unlock = cond (is_unlock_of g u) (n + 1) x.past_unlock;
}

past_cases : (n t : ℕ) (b : Bool) → n + cond b 1 (1 + t) ≡ cond b (n + 1) ((n + 1) + t)
past_cases n t true = refl
past_cases n t false = omega arith

use_step : (us : List Op) (n g : ℕ) (u : Op) → slice_get us n ≡ Some u → use_from us n g ≡ after_unit n g u (use_from us (n + 1) g)
use_step us n g u at =
    let rest = drop (n + 1) us in
    let first : drop n us ≡ u ∷ rest = drop_more us n u (slice_get_within us n u at) ∙ ap (λ x. x ∷ rest) (get_or_from_slice_get us n u u at) in
    let a : longest_section g (drop n us) ≡ max (cond (is_lock_of g u) (to_unlock g rest) 0) (longest_section g rest) = ap (longest_section g) first in
    let b : to_unlock g rest ≡ ((n + 1) + to_unlock g rest) - (n + 1) = omega arith in
    record_path (ap (list_any (is_lock_of g)) first) (a ∙ ap (λ k. max (cond (is_lock_of g u) k 0) (longest_section g rest)) b) (ap (λ xs. n + to_unlock g xs) first ∙ past_cases n (to_unlock g rest) (is_unlock_of g u))
  where
    record_path : {a b : Bool} {k l p q : ℕ} → a ≡ b → k ≡ l → p ≡ q → let x : Use = record { locked = a; longest = k; past_unlock = p } in let y : Use = record { locked = b; longest = l; past_unlock = q } in x ≡ y
    record_path e f h = cc

-- a resource that the unit doesn't name stays as it is
use_stays : (us : List Op) (n g : ℕ) (u : Op) → slice_get us n ≡ Some u → is_lock_of g u ≡ false → is_unlock_of g u ≡ false → use_from us n g ≡ use_from us (n + 1) g
use_stays us n g u at nolock nounlock =
    use_step us n g u at ∙ unchanged (use_from us (n + 1) g) (is_lock_of g u) (is_unlock_of g u) nolock nounlock
  where
    unchanged : (x : Use) (l v : Bool) → l ≡ false → v ≡ false → let y : Use = record { locked = l || x.locked; longest = max (cond l (x.past_unlock - (n + 1)) 0) x.longest; past_unlock = cond v (n + 1) x.past_unlock } in y ≡ x
    unchanged x l v el ev = let e : max 0 x.longest ≡ x.longest = omega arith in grind (arith, e)

-- ---- all resources
length-uses_from : (us : List Op) (n : ℕ) → length (uses_from us n) ≡ 32
unfolding uses_from
length-uses_from us n = length-map-range_with_len (use_from us n) 0 32

pub get_or-uses_from : (us : List Op) (n g : ℕ) (d : Use) → g < 32 → get_or (uses_from us n) g d ≡ use_from us n g
unfolding uses_from
get_or-uses_from us n g d l = get_or-map-range_with_len (use_from us n) 0 32 g g d l (omega arith)

-- behind the last unit nothing is used
pub uses_behind : (us : List Op) (n : ℕ) → n ≡ length us → replicate 32 (let x : Use = record { locked = false; longest = 0; past_unlock = n } in x) ≡ uses_from us n
unfolding uses_from
uses_behind us n e = sym (map_constant (use_from us n) _ last 0 32)
  where
    last : (g : ℕ) → use_from us n g ≡ record { locked = false; longest = 0; past_unlock = n }
    last g = let none : drop n us ≡ [] = drop_all n us (omega (arith, e)) in let z : n + 0 ≡ n = omega arith in
        ap (λ xs. let x : Use = record { locked = list_any (is_lock_of g) xs; longest = longest_section g xs; past_unlock = n + to_unlock g xs } in x) none
        ∙ ap (λ k. let x : Use = record { locked = false; longest = 0; past_unlock = k } in x) z

-- a write at one resource, which alone the unit names
written : (us : List Op) (n r : ℕ) (u : Op) (new : Use) → slice_get us n ≡ Some u → r < 32
    → ((g : ℕ) → g ≢ r → (is_lock_of g u ≡ false) × (is_unlock_of g u ≡ false)) → new ≡ use_from us n r → set (uses_from us (n + 1)) r new ≡ uses_from us n
written us n r u new at l others is =
    let size = length-uses_from us (n + 1) in
    let sized : length (set (uses_from us (n + 1)) r new) ≡ 32 = length-set (uses_from us (n + 1)) r new ∙ size in
    ext_get_or unused (set (uses_from us (n + 1)) r new) (uses_from us n) (sized ∙ sym (length-uses_from us n)) (λ g below.
    let within : g < 32 = omega (arith, below, sized) in
    elim (cases_eq g r) [
      | inl here ↦ ap (λ k. get_or (set (uses_from us (n + 1)) r new) k unused) here ∙ (get_or-set_same (uses_from us (n + 1)) r new unused (omega (arith, l, size)) ∙ (is ∙ (ap (use_from us n) (sym here) ∙ sym (get_or-uses_from us n g unused within))))
      | inr other ↦ let no = others g other in get_or-set_other (uses_from us (n + 1)) r g new unused other ∙ (get_or-uses_from us (n + 1) g unused within ∙ (sym (use_stays us n g u at no.0 no.1) ∙ sym (get_or-uses_from us n g unused within)))
    ])

-- a test for a number that isn't equal
not_named : (r g : ℕ) → g ≢ r → (r == g) ≡ false
not_named r g ne = not_equal r g (λ e. ne (sym e))

-- passing a unit
pub pass_unit : (us : List Op) (n : ℕ) (u : Op) (plan : PlanModel) → length plan.resources ≤ 32 → IsLocking plan us → slice_get us n ≡ Some u → passed n u (uses_from us (n + 1)) ≡ uses_from us n
pass_unit us n Run plan few locking at = ext_get_or unused (uses_from us (n + 1)) (uses_from us n) (length-uses_from us (n + 1) ∙ sym (length-uses_from us n)) (λ g below.
    let within : g < 32 = omega (arith, below, length-uses_from us (n + 1)) in
    get_or-uses_from us (n + 1) g unused within ∙ (sym (use_stays us n g Run at refl refl) ∙ sym (get_or-uses_from us n g unused within)))
pass_unit us n (Lock r) plan few locking at =
    let known = locking.declared n r at in
    let l : r.0 < 32 = omega (arith, known, few) in
    let here = eq-eqb r.0 r.0 refl in
    let is : use_from us n r.0 ≡ with_lock n (use_from us (n + 1) r.0) = use_step us n r.0 (Lock r) at ∙ begins n r.0 r (use_from us (n + 1) r.0) here in
    written us n r.0 (Lock r) (with_lock n (use_at (uses_from us (n + 1)) r.0)) at l (λ g ne. (not_named r.0 g ne, refl)) (ap (with_lock n) (get_or-uses_from us (n + 1) r.0 unused l) ∙ sym is)
  where
    begins : (n g : ℕ) (r : ResId) (x : Use) → (r.0 == g) ≡ true → after_unit n g (Lock r) x ≡ with_lock n x
    begins n g r x e = let f : (b : Bool) → b ≡ true → (let y : Use = record { locked = b || x.locked; longest = max (cond b (x.past_unlock - (n + 1)) 0) x.longest; past_unlock = x.past_unlock } in y ≡ with_lock n x) = starts x n in f (r.0 == g) e
      where
        starts : (x : Use) (n : ℕ) (b : Bool) → b ≡ true → (let y : Use = record { locked = b || x.locked; longest = max (cond b (x.past_unlock - (n + 1)) 0) x.longest; past_unlock = x.past_unlock } in y ≡ with_lock n x)
        starts x n b e = let m : max (x.past_unlock - (n + 1)) x.longest ≡ max x.longest (x.past_unlock - (n + 1)) = omega arith in grind (arith, m)
pass_unit us n (Unlock r) plan few locking at =
    let here = eq-eqb r.0 r.0 refl in
    let known = unlock_below plan us n r.0 (Unlock r) locking at here in
    let l : r.0 < 32 = omega (arith, known, few) in
    let is : use_from us n r.0 ≡ with_unlock n (use_from us (n + 1) r.0) = use_step us n r.0 (Unlock r) at ∙ ends n r.0 r (use_from us (n + 1) r.0) here in
    written us n r.0 (Unlock r) (with_unlock n (use_at (uses_from us (n + 1)) r.0)) at l (λ g ne. (refl, not_named r.0 g ne)) (ap (with_unlock n) (get_or-uses_from us (n + 1) r.0 unused l) ∙ sym is)
  where
    ends : (n g : ℕ) (r : ResId) (x : Use) → (r.0 == g) ≡ true → after_unit n g (Unlock r) x ≡ with_unlock n x
    ends n g r x e = stops x n (r.0 == g) e
      where
        stops : (x : Use) (n : ℕ) (b : Bool) → b ≡ true → (let y : Use = record { locked = x.locked; longest = max 0 x.longest; past_unlock = cond b (n + 1) x.past_unlock } in y ≡ with_unlock n x)
        stops x n b e = let m : max 0 x.longest ≡ x.longest = omega arith in grind (arith, m)

-- and a unit can be passed
pub can_pass : (us : List Op) (n : ℕ) (u : Op) (plan : PlanModel) → length plan.resources ≤ 32 → n + 1 < 2 ^ 32 → IsLocking plan us → slice_get us n ≡ Some u → CanPass n u (uses_from us (n + 1))
can_pass us n Run plan few small locking at = tt
can_pass us n (Lock r) plan few small locking at =
    let known = locking.declared n r at in
    let size = length-uses_from us (n + 1) in
    let past = ap (λ (x : Use). x.past_unlock) (get_or-uses_from us (n + 1) r.0 unused (omega (arith, known, few))) in
    (omega (arith, known, few, size), omega (arith, past))
can_pass us n (Unlock r) plan few small locking at =
    let known = unlock_below plan us n r.0 (Unlock r) locking at (eq-eqb r.0 r.0 refl) in
    let size = length-uses_from us (n + 1) in
    (omega (arith, known, few, size), small)
