-- The first resources, held one within the other.
use Rattle.std.proofs.Common.{◌≡◌, ◌≤◌, ◌||◌, ◌∙◌}
use Rattle.msrp_plan.proofs.Common.{ℕ, zero, suc, false, refl, ap, nat_eq, length, arith, list_any}
use Rattle.std.proofs.lemmas.Bool.{ne_eqb}
use Rattle.msrp_policy_tests.specs.Nested.{nested}

pub length-nested : (n : ℕ) → length (nested n) ≡ n
length-nested zero = refl
length-nested (suc n) = let l = length-nested n in omega (arith, l)

-- no later one is among them
pub not_nested : (n g : ℕ) → n ≤ g → list_any (nat_eq g) (nested n) ≡ false
not_nested zero g h = refl
not_nested (suc n) g h = let rest = not_nested n g (omega (arith, h)) in ap (λ b. b || list_any (nat_eq g) (nested n)) (ne_eqb g n (λ e. omega (arith, h, e))) ∙ rest
