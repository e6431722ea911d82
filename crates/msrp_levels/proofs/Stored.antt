-- What is stored by number, and read.
use Rattle.std.proofs.Common.{◌≡◌, ◌+◌, ◌<◌, ◌∷◌, ◌++◌, ◌∙◌}
use Rattle.msrp_plan.proofs.Common.{ℕ, List, [], map, get_or, ap, sym, subst, inl, inr, arith, length, range_with_len, cases_lt, get_or-map, get_or_push, get_or_append_left, length_push, length-map, get_or-map-range_with_len, length-map-range_with_len, PlanModel, section, spin_bound}
use Rattle.msrp_levels.specs.declared.usage.CoreUse.{CoreUse}
use Rattle.msrp_levels.specs.Usage.{IsUsage, AreUsages}
use Rattle.msrp_levels.specs.declared.usage.Usage.{Usage}

-- and of one more
pub usages_more : (plan : PlanModel) (n : ℕ) (old new : List Usage) (u : Usage) → AreUsages plan n old → IsUsage plan n u → new ≡ old ++ u ∷ [] → AreUsages plan (n + 1) new
usages_more plan n old new u h here more = record {
  size = ap length more ∙ (length_push old u ∙ ap (λ k. k + 1) h.size);
  each = λ g d l. subst (λ (us : List Usage). IsUsage plan g (get_or us g d)) (sym more) (elim (cases_lt g n) [
    | inl before ↦ subst (IsUsage plan g) (sym (get_or_append_left old (u ∷ []) d g (omega (arith, before, h.size)))) (h.each g d before)
    | inr past ↦ let e : g ≡ n = omega (arith, l, past) in subst (λ k. IsUsage plan k (get_or (old ++ u ∷ []) k d)) (sym e) (subst (IsUsage plan n) (sym (get_or_push old u d n h.size)) here)
  ]);
}

-- what is read of a number below an end
pub read_number : {X : Type 0} (f : ℕ → X) (n : ℕ) (xs : List X) (k : ℕ) (x : X) → k < n → xs ≡ map f (range_with_len 0 n) → x ≡ get_or xs k x → x ≡ f k
read_number f n xs k x l e is = is ∙ (ap (λ ys. get_or ys k x) e ∙ get_or-map-range_with_len f 0 n k k x l (omega arith))

-- what is read of a resource
pub read_usage : (p q : PlanModel) (usages : List Usage) (g : ℕ) (u : Usage) → p ≡ q → AreUsages p (length p.resources) usages → g < length q.resources → u ≡ get_or usages g u → IsUsage q g u
read_usage p q usages g u same h l is =
    subst (λ k. IsUsage k g u) same (subst (IsUsage p g) (sym is) (h.each g u (subst (λ (k : PlanModel). g < length k.resources) (sym same) l)))

-- how many cores are stored
pub cores_stored : (plan : PlanModel) (g : ℕ) (u : Usage) → IsUsage plan g u → length u.cores.items ≡ plan.cores
cores_stored plan g u h =
    let a = length-map u.cores.items (λ (x : CoreUse). x.section) in
    let b = length-map-range_with_len (section plan g) 0 plan.cores in
    omega (arith, a, b, ap length h.cores)

pub spins_stored : (plan : PlanModel) (g : ℕ) (u : Usage) → IsUsage plan g u → length u.spins.items ≡ plan.cores
spins_stored plan g u h = ap length h.spins ∙ length-map-range_with_len (spin_bound plan g) 0 plan.cores

-- what is read of a resource and a core
pub read_section : (plan : PlanModel) (g c : ℕ) (u : Usage) (x : CoreUse) → IsUsage plan g u → c < plan.cores → x ≡ get_or u.cores.items c x → x.section ≡ section plan g c
read_section plan g c u x h l is =
    ap (λ (y : CoreUse). y.section) is
    ∙ (sym (get_or-map (λ (y : CoreUse). y.section) u.cores.items c x x.section (let size = cores_stored plan g u h in omega (arith, l, size)))
    ∙ (ap (λ ys. get_or ys c x.section) h.cores ∙ get_or-map-range_with_len (section plan g) 0 plan.cores c c x.section l (omega arith)))

pub read_spin : (plan : PlanModel) (g c : ℕ) (u : Usage) (n : ℕ) → IsUsage plan g u → c < plan.cores → n ≡ get_or u.spins.items c n → n ≡ spin_bound plan g c
read_spin plan g c u n h l is = read_number (spin_bound plan g) plan.cores u.spins.items c n l h.spins is
