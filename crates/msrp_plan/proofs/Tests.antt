-- Facts on tests that the kit's library lacks.
use Rattle.msrp_plan.specs.Common.{ℕ, Bool, true, false, not, cond, nat_le}
use Rattle.std.proofs.Common.{◌≡◌, ◌<◌, ◌≤◌, ◌||◌, refl, sym, ap, ◌∙◌, arith}
use Rattle.std.proofs.lemmas.Bool.Decides.{nat_tests}

-- tests that imply each other are one
pub same_tests : (a b : Bool) → (a ≡ true → b ≡ true) → (b ≡ true → a ≡ true) → a ≡ b
same_tests true true f g = refl
same_tests true false f g = sym (f refl)
same_tests false true f g = g refl
same_tests false false f g = refl

-- neither of two
pub or_neither : (a b : Bool) → a ≡ false → b ≡ false → (a || b) ≡ false
or_neither a b e f = ap (λ c. c || b) e ∙ f

-- the first of two, where the second fails
pub or_off : (a b : Bool) → b ≡ false → a || b ≡ a
or_off true b e = refl
or_off false b e = e

-- what is counted by a test is one at most
pub one_at_most : (b : Bool) → cond {A = ℕ} b 1 0 ≤ 1
one_at_most true = omega arith
one_at_most false = omega arith

-- a number isn't up to a lesser one
pub not_up_to : (n m : ℕ) → m < n → nat_le n m ≡ false
not_up_to n m h = grind (arith, nat_tests, h)

-- a test whose opposite holds
pub not_held : (b : Bool) → true ≡ not b → b ≡ true → ⊥
not_held true h e = cc
not_held false h e = cc

-- a test whose opposite fails
pub held : (b : Bool) → false ≡ not b → b ≡ true
held true h = refl
held false h = absurd (cc)
