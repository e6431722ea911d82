-- What a job holds after its units so far, and after one unit more.
use Rattle.msrp_plan.proofs.Common.{ℕ, zero, suc, Bool, true, false, cond, nat_eq, nat_lt, List, [], Some, None, refl, ap, sym, arith, add-one, length, take, slice_get, inl, inr, list_any, true≢false, take-suc, cases_Bool, lt-ltb, le-ltb, false_from_ne_true, none-some, same_Some, get_or_from_slice_get, slice_get_within, sum_by-cons, PlanModel, TaskModel, held_with, held_after, holds_after, locks, unlocks, IsLocking, held_times, held_push, even_after}
use Rattle.msrp_core.proofs.Common.{Op, ResId, eq-eqb, eqb-true}
use Rattle.std.proofs.Common.{◌≡◌, ◌+◌, ◌≤◌, ◌==◌, ◌||◌, ◌∷◌, ◌++◌, ◌∙◌, take_all}
use Rattle.msrp_plan.specs.WellFormed.{IsWhole}
use Rattle.msrp_plan.specs.declared.units.Op.TheVariants.{Lock, Unlock}

-- ---- the test of what is held
-- what stands in a list is held at least once, and what doesn't is not
times_of : (g : ℕ) (held : List ℕ) (b : Bool) → list_any (nat_eq g) held ≡ b → nat_lt 0 (held_times g held) ≡ b
times_of g [] b e = e
times_of g (h ∷ held) b e = elim (cases_Bool (nat_eq g h)) [
  | inl hit ↦
      let first : held_times g (h ∷ held) ≡ cond (h == g) 1 0 + held_times g held = sum_by-cons (λ k. cond (k == g) 1 0) h held in
      let one : cond {A = ℕ} (h == g) 1 0 ≡ 1 = ap (λ k. cond (h == k) 1 0) (eqb-true g h hit) ∙ ap (λ b. cond b 1 0) (eq-eqb h h refl) in
      lt-ltb 0 (held_times g (h ∷ held)) (omega (arith, first, one)) ∙ (sym (ap (λ b. b || list_any (nat_eq g) held) hit) ∙ e)
  | inr miss ↦
      let first : held_times g (h ∷ held) ≡ cond (h == g) 1 0 + held_times g held = sum_by-cons (λ k. cond (k == g) 1 0) h held in
      let none : cond {A = ℕ} (h == g) 1 0 ≡ 0 = ap (λ b. cond b 1 0) (false_from_ne_true (h == g) (λ t. true≢false (sym (eq-eqb g h (sym (eqb-true h g t))) ∙ miss))) in
      let same : held_times g (h ∷ held) ≡ held_times g held = omega (arith, first, none) in
      ap (nat_lt 0) same ∙ times_of g held b (sym (ap (λ b. b || list_any (nat_eq g) held) miss) ∙ e)
]

-- by how much more often it was locked
more_test : (l u t : ℕ) → l ≡ u + t → nat_lt u l ≡ nat_lt 0 t
more_test l u zero e = le-ltb u l (omega (arith, e))
more_test l u (suc t) e = lt-ltb u l (omega (arith, e)) ∙ sym (lt-ltb 0 (suc t) (omega arith))

-- a resource is held after the units exactly where it stands among what is held
pub held_test : (g : ℕ) (us : List Op) (held : List ℕ) → held_after us ≡ Some held → holds_after us g ≡ list_any (nat_eq g) held
held_test g us held e = more_test (locks g us) (unlocks g us) (held_times g held) ((even_after g us held e).even) ∙ times_of g held (list_any (nat_eq g) held) refl

-- ---- one unit more
taken_more : (us : List Op) (n : ℕ) (op : Op) → slice_get us n ≡ Some op → take (n + 1) us ≡ take n us ++ op ∷ []
taken_more us n op at = ap (λ k. take k us) (add-one n) ∙ (take-suc us n op (slice_get_within us n op at) ∙ ap (λ o. take n us ++ o ∷ []) (get_or_from_slice_get us n op op at))

pub held_next : (us : List Op) (n : ℕ) (op : Op) (held : List ℕ) → held_after (take n us) ≡ Some held → slice_get us n ≡ Some op → held_after (take (n + 1) us) ≡ held_with held op
held_next us n op held e at = ap held_after (taken_more us n op at) ∙ held_push (take n us) op held e

-- what is held after the next unit of units that nest
pub record HeldNext (us : List Op) (n : ℕ) (op : Op) (held : List ℕ) : Type 0 where
  pub next : List ℕ
  pub step : held_with held op ≡ Some next
  pub few : length next ≤ 8
  pub now : held_after (take (n + 1) us) ≡ Some next

pub next_held : (plan : PlanModel) (us : List Op) (n : ℕ) (op : Op) (held : List ℕ) → IsLocking plan us → held_after (take n us) ≡ Some held → slice_get us n ≡ Some op → HeldNext us n op held
next_held plan us n op held locking e at =
    let there = locking.nested (n + 1) in
    record { next = there.0; step = sym (held_next us n op held e at) ∙ there.1; few = there.2; now = there.1 }

-- a lock is of a resource that isn't held, which then is the innermost
locked_cases : (r : ResId) (held next : List ℕ) (b : Bool) → list_any (nat_eq r.0) held ≡ b → cond b None (Some (r.0 ∷ held)) ≡ Some next → (list_any (nat_eq r.0) held ≡ false) × (next ≡ r.0 ∷ held)
locked_cases r held next true is e = absurd (none-some next e)
locked_cases r held next false is e = (is, sym (same_Some (r.0 ∷ held) next e))

pub locked : (r : ResId) (held next : List ℕ) → held_with held (Lock r) ≡ Some next → (list_any (nat_eq r.0) held ≡ false) × (next ≡ r.0 ∷ held)
locked r held next e = locked_cases r held next (list_any (nat_eq r.0) held) refl e

-- an unlock is of the innermost
unlocked_cases : (r : ResId) (h : ℕ) (held next : List ℕ) (b : Bool) → (r.0 == h) ≡ b → cond b (Some held) None ≡ Some next → h ∷ held ≡ r.0 ∷ next
unlocked_cases r h held next true is e = ap (λ k. k ∷ held) (sym (eqb-true r.0 h is)) ∙ ap (λ l. r.0 ∷ l) (same_Some held next e)
unlocked_cases r h held next false is e = absurd (none-some next e)

pub unlocked : (r : ResId) (held next : List ℕ) → held_with held (Unlock r) ≡ Some next → held ≡ r.0 ∷ next
unlocked r [] next e = absurd (none-some next e)
unlocked r (h ∷ held) next e = unlocked_cases r h held next (r.0 == h) refl e

-- who has done all of its units holds nothing
pub whole_free : (task : TaskModel) (held : List ℕ) → IsWhole task → held_after (take (length task.units) task.units) ≡ Some held → held ≡ []
whole_free task [] whole e = refl
whole_free task (h ∷ held) whole e =
    let us = task.units in
    let all : take (length us) us ≡ us = take_all (length us) us (omega arith) in
    let has : list_any (nat_eq h) (h ∷ held) ≡ true = ap (λ b. b || list_any (nat_eq h) held) (eq-eqb h h refl) in
    let holds : holds_after us h ≡ true = held_test h us (h ∷ held) (ap held_after (sym all) ∙ e) ∙ has in
    absurd (true≢false (sym holds ∙ le-ltb (unlocks h us) (locks h us) (let b = whole.balanced h in omega (arith, b))))
