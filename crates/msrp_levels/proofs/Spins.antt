-- The sum of the other cores' sections, core by core.
use Rattle.std.proofs.Common.{◌≡◌, ◌+◌, ◌==◌, ◌&&◌, ◌∙◌}
use Rattle.msrp_plan.proofs.Common.{ℕ, true, false, cond, not, List, ap, arith, filter, range_with_len, sum_by}
use Rattle.msrp_levels.specs.declared.usage.CoreUse.{CoreUse}
use Rattle.msrp_levels.specs.Usage.{core_use_at, is_other_user}
use Rattle.msrp_levels.proofs.Gathered.{sum_more_range}

abbrev part : List CoreUse → ℕ → ℕ
part cores d = 1 + (core_use_at cores d).section

-- what the first n cores add
abbrev pub spin_below : List CoreUse → ℕ → ℕ → ℕ
spin_below cores c n = sum_by (part cores) (filter (is_other_user cores c) (range_with_len 0 n))

-- a core that counts
pub spin_on : (cores : List CoreUse) (c n s : ℕ) → (n == c) ≡ false → (core_use_at cores n).used ≡ true → s ≡ spin_below cores c n → s + (1 + (core_use_at cores n).section) ≡ spin_below cores c (n + 1)
spin_on cores c n s other used e =
    let b : is_other_user cores c n ≡ true = ap (λ v. not v && (core_use_at cores n).used) other ∙ used in
    let step = sum_more_range (part cores) (is_other_user cores c) n ∙ ap (λ v. spin_below cores c n + cond v (part cores n) 0) b in
    omega (arith, e, step)

-- a core that doesn't count
spin_off : (cores : List CoreUse) (c n s : ℕ) → is_other_user cores c n ≡ false → s ≡ spin_below cores c n → s ≡ spin_below cores c (n + 1)
spin_off cores c n s b e =
    let step = sum_more_range (part cores) (is_other_user cores c) n ∙ ap (λ v. spin_below cores c n + cond v (part cores n) 0) b in
    omega (arith, e, step)

pub spin_own : (cores : List CoreUse) (c n s : ℕ) → (n == c) ≡ true → s ≡ spin_below cores c n → s ≡ spin_below cores c (n + 1)
spin_own cores c n s own e = spin_off cores c n s (ap (λ v. not v && (core_use_at cores n).used) own) e

pub spin_unused : (cores : List CoreUse) (c n s : ℕ) → (n == c) ≡ false → (core_use_at cores n).used ≡ false → s ≡ spin_below cores c n → s ≡ spin_below cores c (n + 1)
spin_unused cores c n s other unused e = spin_off cores c n s (ap (λ v. not v && (core_use_at cores n).used) other ∙ unused) e
