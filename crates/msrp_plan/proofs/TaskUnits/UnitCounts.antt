-- How often the units behind lock and unlock a resource, and whether they hold it, over one unit
-- more.
use Rattle.msrp_plan.specs.Common.{ℕ, Bool, true, false, cond, List, Some, take, slice_get, PlanModel, is_lock_of, is_unlock_of, holds_after, IsLocking}
use Rattle.msrp_plan.specs.declared.units.Op.{Op}
use Rattle.std.proofs.Common.{◌≡◌, ◌+◌, refl, ap, ◌∙◌, arith}
use Rattle.std.specs.List.{count_by}
use Rattle.std.proofs.lemmas.Bool.{lt-ltb, le-ltb}
use Rattle.std.proofs.lemmas.Option.{get_or_from_slice_get, slice_get_within}
use Rattle.std.proofs.lemmas.List.Sums.{sum_by_more}
use Rattle.msrp_plan.specs.declared.units.Op.TheVariants.{Run as RunUnit, Lock as LockUnit, Unlock as UnlockUnit}

-- a resource is held where so many units are behind
abbrev pub held_in : List Op → ℕ → ℕ → Bool
held_in us g n = holds_after (take n us) g

-- ---- one unit more behind
pub count_next : (p : Op → Bool) (us : List Op) (n : ℕ) (op : Op) → slice_get us n ≡ Some op → count_by p (take (n + 1) us) ≡ count_by p (take n us) + cond (p op) 1 0
count_next p us n op h =
    sum_by_more (λ x. cond (p x) 1 0) us n op (slice_get_within us n op h) ∙ ap (λ o. count_by p (take n us) + cond (p o) 1 0) (get_or_from_slice_get us n op op h)

-- where the unit counts
count_yes : (p : Op → Bool) (us : List Op) (n : ℕ) (op : Op) → slice_get us n ≡ Some op → p op ≡ true → count_by p (take (n + 1) us) ≡ count_by p (take n us) + 1
count_yes p us n op h e = count_next p us n op h ∙ ap (λ b. count_by p (take n us) + cond b 1 0) e

-- where it does not
count_no : (p : Op → Bool) (us : List Op) (n : ℕ) (op : Op) → slice_get us n ≡ Some op → p op ≡ false → count_by p (take (n + 1) us) ≡ count_by p (take n us)
count_no p us n op h e = let k : count_by p (take (n + 1) us) ≡ count_by p (take n us) + 0 = count_next p us n op h ∙ ap (λ b. count_by p (take n us) + cond b 1 0) e in omega (arith, k)

-- a lock is no unlock, and an unlock is no lock
pub lock_alone : (g : ℕ) (op : Op) → is_lock_of g op ≡ true → is_unlock_of g op ≡ false
lock_alone g RunUnit h = refl
lock_alone g (LockUnit r) h = refl
lock_alone g (UnlockUnit r) h = absurd (cc)

-- an unlock is no lock
pub unlock_alone : (g : ℕ) (op : Op) → is_unlock_of g op ≡ true → is_lock_of g op ≡ false
unlock_alone g RunUnit h = refl
unlock_alone g (LockUnit r) h = absurd (cc)
unlock_alone g (UnlockUnit r) h = refl

-- over a lock a resource becomes held
pub held_lock : (plan : PlanModel) (us : List Op) (g n : ℕ) (op : Op) → IsLocking plan us → slice_get us n ≡ Some op → is_lock_of g op ≡ true → (held_in us g n ≡ false) × (held_in us g (n + 1) ≡ true)
held_lock plan us g n op locking h e =
    let a = count_yes (is_lock_of g) us n op h e in
    let b = count_no (is_unlock_of g) us n op h (lock_alone g op e) in
    let c = locking.once (n + 1) g in
    let d = locking.below n g in
    (le-ltb _ _ (omega (arith, a, b, c)), lt-ltb _ _ (omega (arith, a, b, d)))

-- over an unlock it becomes free
pub held_unlock : (plan : PlanModel) (us : List Op) (g n : ℕ) (op : Op) → IsLocking plan us → slice_get us n ≡ Some op → is_unlock_of g op ≡ true → (held_in us g n ≡ true) × (held_in us g (n + 1) ≡ false)
held_unlock plan us g n op locking h e =
    let a = count_no (is_lock_of g) us n op h (unlock_alone g op e) in
    let b = count_yes (is_unlock_of g) us n op h e in
    let c = locking.below (n + 1) g in
    let d = locking.once n g in
    (lt-ltb _ _ (omega (arith, a, b, c)), le-ltb _ _ (omega (arith, a, b, d)))

-- over another unit it stays as it is
pub held_other : (us : List Op) (g n : ℕ) (op : Op) → slice_get us n ≡ Some op → is_lock_of g op ≡ false → is_unlock_of g op ≡ false → held_in us g (n + 1) ≡ held_in us g n
held_other us g n op h e k =
    let a = count_no (is_lock_of g) us n op h e in
    let b = count_no (is_unlock_of g) us n op h k in
    cc
