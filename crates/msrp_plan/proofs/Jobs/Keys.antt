-- The order of the jobs' keys: total, so that of two jobs one is before the other.
use Rattle.msrp_plan.specs.Common.{ℕ, false, is_lt, nat_cmp, ordering_then, PlanModel, key, is_before, key_cmp}
use Rattle.msrp_plan.specs.declared.ids.JobId.{JobId}
use Rattle.std.proofs.Common.{◌≡◌, refl, ap, sym, ◌∙◌, Ordering}
use Rattle.std.specs.Cmp.{IsTotalOrder, IsStrictWeakOrder}
use Rattle.std.specs.Ordering.{ordering_reverse}
use Rattle.std.specs.declared.cmp.Ordering.TheVariants.{Less, Equal, Greater}
use Rattle.std.proofs.lemmas.Cmp.{then_total, on_total, nat_cmp_total, ranked}
use Rattle.std.proofs.lemmas.List.MinMax.{ranks_by}

-- the comparison of keys is total
pub key_total : IsTotalOrder key_cmp
key_total = then_total (on_total (λ k. k.deadline) nat_cmp_total) (then_total (on_total (λ k. k.release) nat_cmp_total) (then_total (on_total (λ k. k.task) nat_cmp_total) (on_total (λ k. k.k) nat_cmp_total)))

-- so the order of jobs is a strict order
pub before_order : (plan : PlanModel) → IsStrictWeakOrder (is_before plan)
before_order plan = ranks_by key_total (key plan)

-- two comparisons in turn are equal where both are
pub then_equal : (a b : Ordering) → ordering_then a b ≡ Equal → (a ≡ Equal) × (b ≡ Equal)
then_equal Less b h = absurd (cc)
then_equal Equal b h = (refl, h)
then_equal Greater b h = absurd (cc)

-- numbers that compare equal are one
pub nat_equal : (x y : ℕ) → nat_cmp x y ≡ Equal → x ≡ y
nat_equal x y h = let k = ranked x y Equal (sym h) in k

-- what is less in neither direction is equal
neither : (a b : Ordering) → a ≡ ordering_reverse b → is_lt a ≡ false → is_lt b ≡ false → a ≡ Equal
neither Less b r h k = absurd (cc)
neither Equal b r h k = refl
neither Greater Less r h k = absurd (cc)
neither Greater Equal r h k = absurd (cc)
neither Greater Greater r h k = absurd (cc)

-- a job is its task and its number
same_parts : (i j : JobId) → i.task.0 ≡ j.task.0 → i.k ≡ j.k → i ≡ j
same_parts i j t n = let mk : ℕ → ℕ → JobId = λ a b. record { task = record { 0 = a }; k = b } in ap (λ x. mk x i.k) t ∙ ap (λ m. mk j.task.0 m) n

-- two jobs of which neither is before the other are one
pub tied : (plan : PlanModel) (i j : JobId) → is_before plan i j ≡ false → is_before plan j i ≡ false → i ≡ j
tied plan i j h k =
    let e : key_cmp (key plan i) (key plan j) ≡ Equal = neither (key_cmp (key plan i) (key plan j)) (key_cmp (key plan j) (key plan i)) (key_total.antisymm (key plan i) (key plan j)) h k in
    let a = then_equal _ _ e in
    let b = then_equal _ _ a.1 in
    let c = then_equal _ _ b.1 in
    same_parts i j (nat_equal i.task.0 j.task.0 c.0) (nat_equal i.k j.k c.1)
