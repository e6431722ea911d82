-- How many resources are held along the units of a task.
use Rattle.std.proofs.Common.{◌≡◌, ◌+◌, ◌-◌, ◌<◌, ◌≤◌, ◌==◌, ◌||◌, ◌∷◌, ◌++◌, ◌∙◌}
use Rattle.msrp_plan.proofs.Common.{ℕ, nat_eq, Bool, true, false, cond, List, [], take, slice_get, Some, None, refl, ap, sym, arith, length, eq-eqb, list_any, lt-ltb, le-ltb, take_all, take_more, sum_by-cons, sum_by-take-le, length-filter, same_Some, none-some, slice_get_within, get_or_from_slice_get, true_from_ne_false, PlanModel, is_lock_of, locks, unlocks, holds_after, held_with, held_after, IsLocking, resources, in_resources, any_in, none_kept, even_after, held_push, held_times}
use Rattle.msrp_plan.specs.declared.units.Op.{Op}
use Rattle.msrp_plan.specs.Bounds.{in_section}
use Rattle.msrp_plan.specs.declared.units.Op.TheVariants.{Run, Lock, Unlock}
use Rattle.msrp_levels.specs.Outermost.{held_with_unit, CanFollow}
use Rattle.msrp_levels.proofs.PassedUnits.{lock_below}

-- so many resources are held after the first n units
pub record IsHeldAt (us : List Op) (n held : ℕ) : Type 0 where
  pub names : List ℕ
  pub after : held_after (take n us) ≡ Some names
  pub size : held ≡ length names

-- none at first
pub held_first : (us : List Op) → IsHeldAt us 0 0
held_first us = record { names = []; after = refl; size = refl }

-- by the unit that follows
step_size : (names next : List ℕ) (held : ℕ) (u : Op) → held ≡ length names → length names < 4096 → held_with names u ≡ Some next → (CanFollow held u) × (held_with_unit held u ≡ length next)
step_size names next held Run e few step = (omega (arith, e, few), e ∙ ap length (same_Some names next step))
step_size names next held (Lock r) e few step = locked (list_any (nat_eq r.0) names) step
  where
    locked : (b : Bool) → cond b None (Some (r.0 ∷ names)) ≡ Some next → (held < 4096) × (held + 1 ≡ length next)
    locked true step = absurd (none-some next step)
    locked false step = let k = ap length (same_Some (r.0 ∷ names) next step) in (omega (arith, e, few), omega (arith, e, k))
step_size [] next held (Unlock r) e few step = absurd (none-some next step)
step_size (g ∷ names) next held (Unlock r) e few step = unlocked (r.0 == g) step
  where
    unlocked : (b : Bool) → cond b (Some names) None ≡ Some next → (0 < held) × (held - 1 ≡ length next)
    unlocked true step = let k = ap length (same_Some names next step) in (omega (arith, e), omega (arith, e, k))
    unlocked false step = absurd (none-some next step)

-- one unit more
pub held_step : (plan : PlanModel) (us : List Op) (n held : ℕ) (u : Op) → IsLocking plan us → slice_get us n ≡ Some u → IsHeldAt us n held → (CanFollow held u) × IsHeldAt us (n + 1) (held_with_unit held u)
held_step plan us n held u locking at h =
    let now = locking.nested n in
    let next = locking.nested (n + 1) in
    let same = same_Some h.names now.0 (sym h.after ∙ now.1) in
    let few : length h.names < 4096 = let k = ap length same in omega (arith, k, now.2) in
    let more : take (n + 1) us ≡ take n us ++ u ∷ [] = take_more us n u (slice_get_within us n u at) ∙ ap (λ x. take n us ++ x ∷ []) (get_or_from_slice_get us n u u at) in
    let step : held_with h.names u ≡ Some next.0 = sym (held_push (take n us) u h.names h.after) ∙ (sym (ap held_after more) ∙ next.1) in
    let sized = step_size h.names next.0 held u h.size few step in
    (sized.0, record { names = next.0; after = next.1; size = sized.1 })

-- none at last, where all that was locked is unlocked again
pub held_last : (us : List Op) (n held : ℕ) → n ≡ length us → ((g : ℕ) → unlocks g us ≡ locks g us) → IsHeldAt us n held → held ≡ 0
held_last us n held end balanced h = by_names h.names h.after h.size
  where
    by_names : (names : List ℕ) → held_after (take n us) ≡ Some names → held ≡ length names → held ≡ 0
    by_names [] after size = size
    by_names (g ∷ names) after size =
        let k = even_after g (take n us) (g ∷ names) after in
        let first : held_times g (g ∷ names) ≡ cond {A = ℕ} (g == g) 1 0 + held_times g names = sum_by-cons (λ x. cond (x == g) 1 0) g names in
        let one : cond {A = ℕ} (g == g) 1 0 ≡ 1 = ap (λ b. cond b 1 0) (eq-eqb g g refl) in
        let same : unlocks g (take n us) ≡ locks g (take n us) = let all = take_all n us (omega (arith, end)) in ap (unlocks g) all ∙ (balanced g ∙ ap (locks g) (sym all)) in
        absurd (omega (arith, k.even, first, one, same))

-- ---- inside a section
-- nothing is held outside
pub outside : (plan : PlanModel) (us : List Op) (n : ℕ) → IsHeldAt us n 0 → in_section plan us n ≡ false
outside plan us n h = none (resources plan)
  where
    no_names : (names : List ℕ) → 0 ≡ length names → (g : ℕ) → held_times g names ≡ 0
    no_names [] e g = refl
    no_names (x ∷ names) e g = absurd (omega (arith, e))

    fails : (g : ℕ) → holds_after (take n us) g ≡ false
    fails g = let k = even_after g (take n us) h.names h.after in let z = no_names h.names h.size g in le-ltb (unlocks g (take n us)) (locks g (take n us)) (omega (arith, k.even, z))

    none : (gs : List ℕ) → list_any (holds_after (take n us)) gs ≡ false
    none [] = refl
    none (g ∷ gs) = ap (λ b. b || list_any (holds_after (take n us)) gs) (fails g) ∙ none gs

-- something is held inside
pub inside : (plan : PlanModel) (us : List Op) (n held : ℕ) → IsLocking plan us → 0 < held → IsHeldAt us n held → in_section plan us n ≡ true
inside plan us n held locking some h = by_names h.names h.after (omega (arith, some, h.size))
  where
    by_names : (names : List ℕ) → held_after (take n us) ≡ Some names → 0 < length names → in_section plan us n ≡ true
    by_names [] after l = absurd (omega (arith, l))
    by_names (g ∷ names) after l =
        let k = even_after g (take n us) (g ∷ names) after in
        let first : held_times g (g ∷ names) ≡ cond {A = ℕ} (g == g) 1 0 + held_times g names = sum_by-cons (λ x. cond (x == g) 1 0) g names in
        let one : cond {A = ℕ} (g == g) 1 0 ≡ 1 = ap (λ b. cond b 1 0) (eq-eqb g g refl) in
        let holds : holds_after (take n us) g ≡ true = lt-ltb (unlocks g (take n us)) (locks g (take n us)) (omega (arith, k.even, first, one)) in
        let fewer : locks g (take n us) ≤ locks g us = sum_by-take-le (λ x. cond (is_lock_of g x) 1 0) us n in
        let used : list_any (is_lock_of g) us ≡ true = true_from_ne_false (list_any (is_lock_of g) us) (λ none.
        let size = length-filter (is_lock_of g) us in
        let e = ap length (none_kept (is_lock_of g) (is_lock_of g) (λ x f. f) us none) in
        absurd (omega (arith, k.even, first, one, fewer, size, e))) in
        any_in (holds_after (take n us)) (resources plan) g (in_resources plan g (lock_below plan us g locking used)) holds
