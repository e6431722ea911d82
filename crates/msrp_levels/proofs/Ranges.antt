-- The greatest over a range, where one number's value grows.
use Rattle.std.proofs.Common.{◌≡◌, ◌≢◌, ◌+◌, ◌<◌, ◌≤◌, ◌∷◌, ◌∙◌}
use Rattle.msrp_plan.proofs.Common.{ℕ, true, List, [], map, max, refl, ap, inl, inr, arith, AllByRecursion, filter, range_with_len, cases_eq, map-range_with_len_more, greatest, all_weaker, greatest_above, greatest_push}
use Rattle.msrp_plan.proofs.Lists.AnyAll.{in_range}
use Rattle.msrp_levels.proofs.Gathered.{range_below}
use Rattle.msrp_levels.proofs.Longest.{fold_max-le}

-- a filter that keeps all
filter_all : {X : Type 0} (xs : List X) → filter (λ _. true) xs ≡ xs
filter_all [] = refl
filter_all (x ∷ xs) = ap (λ ys. x ∷ ys) (filter_all xs)

-- the greatest over a range is above each value
pub range_above : (f : ℕ → ℕ) (n k : ℕ) → k < n → f k ≤ greatest (map f (range_with_len 0 n))
range_above f n k l =
    let a = greatest_above f (λ _. true) (range_with_len 0 n) k (in_range k n l) refl in
    let e = ap (λ ks. greatest (map f ks)) (filter_all (range_with_len 0 n)) in
    omega (arith, a, e)

-- what holds of values holds of a list of them
all_values : (f : ℕ → ℕ) (b : ℕ) (ks : List ℕ) → AllByRecursion (λ k. f k ≤ b) ks → AllByRecursion (λ n. n ≤ b) (map f ks)
all_values f b [] all = tt
all_values f b (k ∷ ks) all = (all.0, all_values f b ks all.1)

-- and not above a bound of them all
pub range_within : (f : ℕ → ℕ) (n b : ℕ) → ((k : ℕ) → k < n → f k ≤ b) → greatest (map f (range_with_len 0 n)) ≤ b
range_within f n b each =
    fold_max-le b 0 (map f (range_with_len 0 n)) (omega arith) (all_values f b (range_with_len 0 n) (all_weaker (λ k. k < n) (λ k. f k ≤ b) each (range_with_len 0 n) (range_below 0 n n (omega arith))))

-- where one number's value grows, and the others stay
pub range_grows : (f g : ℕ → ℕ) (n s : ℕ) → s < n → f s ≤ g s → ((k : ℕ) → k ≢ s → g k ≡ f k) → greatest (map g (range_with_len 0 n)) ≡ max (greatest (map f (range_with_len 0 n))) (g s)
range_grows f g n s l more same =
    let old = greatest (map f (range_with_len 0 n)) in
    let up : greatest (map g (range_with_len 0 n)) ≤ max old (g s) = range_within g n (max old (g s)) (λ k within. elim (cases_eq k s) [
      | inl here ↦ let e = ap g here in omega (arith, e)
      | inr other ↦ let e = same k other in let a = range_above f n k within in omega (arith, e, a)
    ]) in
    let own = range_above g n s l in
    let down : old ≤ greatest (map g (range_with_len 0 n)) = range_within f n (greatest (map g (range_with_len 0 n))) (λ k within. elim (cases_eq k s) [
      | inl here ↦ let e = ap f here in omega (arith, e, more, own)
      | inr other ↦ let e = same k other in let a = range_above g n k within in omega (arith, e, a)
    ]) in
    omega (arith, up, own, down)

-- one number more, whose value is 0
pub range_more_zero : (f : ℕ → ℕ) (n : ℕ) → f n ≡ 0 → greatest (map f (range_with_len 0 (n + 1))) ≡ greatest (map f (range_with_len 0 n))
range_more_zero f n z =
    let e = ap greatest (map-range_with_len_more f 0 n n (omega arith)) ∙ greatest_push (map f (range_with_len 0 n)) (f n) in
    omega (arith, e, z)
