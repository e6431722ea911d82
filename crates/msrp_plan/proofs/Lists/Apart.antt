-- Elements that a number tells apart, each number from a list: no more of them than numbers in the
-- list, and any sum over them is within the sum over the list.
use Rattle.msrp_plan.specs.Common.{ℕ, Bool, true, false, cond, List, [], length, list_any, sum_by, AllByRecursion, range_with_len}
use Rattle.std.proofs.Common.{◌≡◌, ◌≢◌, ◌+◌, ◌<◌, ◌≤◌, ◌||◌, ◌==◌, ◌∷◌, ◌++◌, refl, ap, sym, ◌∙◌, arith, eq-eqb}
use Rattle.std.proofs.lemmas.Bool.{eqb-true}
use Rattle.std.proofs.lemmas.List.Sums.{sum_by-cons}
use Rattle.msrp_plan.proofs.Lists.AnyAll.{any_in, all_push, in_range}

-- f tells the elements apart
abbrev pub ApartBy : {X : Type 0} → (X → ℕ) → List X → Type 0
ApartBy f [] = Unit
ApartBy f (x ∷ xs) = AllByRecursion (λ y. f x ≢ f y) xs × ApartBy f xs

-- one element more at the end
pub apart_push : {X : Type 0} (f : X → ℕ) (xs : List X) (y : X) → ApartBy f xs → AllByRecursion (λ x. f x ≢ f y) xs → ApartBy f (xs ++ y ∷ [])
apart_push f [] y a h = (tt, tt)
apart_push f (x ∷ xs) y a h = (all_push (λ z. f x ≢ f z) xs y a.0 h.0, apart_push f xs y a.1 h.1)

-- ---- a list of numbers, and without one of them
abbrev pub has : ℕ → List ℕ → Bool
has n ds = list_any (λ d. n == d) ds

-- the list without the first such number
abbrev pub without : ℕ → List ℕ → List ℕ
without n [] = []
without n (d ∷ ds) = cond (n == d) ds (d ∷ without n ds)

-- by whether the first number is the one
sum_cases : (w : ℕ → ℕ) (n d : ℕ) (ds : List ℕ) (b : Bool) → (n == d) ≡ b → (b || has n ds) ≡ true → (has n ds ≡ true → sum_by w ds ≡ w n + sum_by w (without n ds)) → w d + sum_by w ds ≡ w n + sum_by w (cond b ds (d ∷ without n ds))
sum_cases w n d ds true e h ih = ap (λ k. w k + sum_by w ds) (sym (eqb-true n d e))
sum_cases w n d ds false e h ih = let k = ih h in let c = sum_by-cons w d (without n ds) in omega (arith, k, c)

-- a sum, without one number and with it
pub sum_without : (w : ℕ → ℕ) (n : ℕ) (ds : List ℕ) → has n ds ≡ true → sum_by w ds ≡ w n + sum_by w (without n ds)
sum_without w n [] h = absurd (cc)
sum_without w n (d ∷ ds) h = sum_by-cons w d ds ∙ sum_cases w n d ds (n == d) refl h (sum_without w n ds)

-- by whether the first number is the one, or the other
has_cases : (n k d : ℕ) (ds : List ℕ) (b c : Bool) → (n == d) ≡ b → (k == d) ≡ c → n ≢ k → (c || has k ds) ≡ true → (has k ds ≡ true → has k (without n ds) ≡ true) → has k (cond b ds (d ∷ without n ds)) ≡ true
has_cases n k d ds true true e f ne h ih = absurd (ne (eqb-true n d e ∙ sym (eqb-true k d f)))
has_cases n k d ds true false e f ne h ih = h
has_cases n k d ds false true e f ne h ih = ap (λ b. b || has k (without n ds)) f
has_cases n k d ds false false e f ne h ih = ap (λ b. b || has k (without n ds)) f ∙ ih h

-- every other number is still there
pub has_without : (n k : ℕ) (ds : List ℕ) → n ≢ k → has k ds ≡ true → has k (without n ds) ≡ true
has_without n k [] ne h = absurd (cc)
has_without n k (d ∷ ds) ne h = has_cases n k d ds (n == d) (k == d) refl refl ne h (has_without n k ds ne)

-- numbers of other elements are still there
all_without : {X : Type 0} (f : X → ℕ) (n : ℕ) (xs : List X) (ds : List ℕ) → AllByRecursion (λ y. n ≢ f y) xs → AllByRecursion (λ y. has (f y) ds ≡ true) xs → AllByRecursion (λ y. has (f y) (without n ds) ≡ true) xs
all_without f n [] ds a h = tt
all_without f n (x ∷ xs) ds a h = (has_without n (f x) ds a.0 h.0, all_without f n xs ds a.1 h.1)

-- ---- elements that f tells apart, each at a number of the list
-- their sum is within that of the list
pub fits : {X : Type 0} (f : X → ℕ) (w : ℕ → ℕ) (xs : List X) (ds : List ℕ) → ApartBy f xs → AllByRecursion (λ y. has (f y) ds ≡ true) xs → sum_by (λ x. w (f x)) xs ≤ sum_by w ds
fits f w [] ds a h = omega arith
fits f w (x ∷ xs) ds a h =
    let ih = fits f w xs (without (f x) ds) a.1 (all_without f (f x) xs ds a.0 h.1) in
    let e = sum_without w (f x) ds h.0 in
    let k = sum_by-cons (λ z. w (f z)) x xs in
    omega (arith, ih, e, k)

-- the sum of ones is the length
pub sum_ones : {X : Type 0} (xs : List X) → sum_by (λ _. 1) xs ≡ length xs
sum_ones [] = refl
sum_ones (x ∷ xs) = let k = sum_by-cons (λ _. 1) x xs in let ih = sum_ones xs in omega (arith, k, ih)

-- and so is their number
pub fits_length : {X : Type 0} (f : X → ℕ) (xs : List X) (ds : List ℕ) → ApartBy f xs → AllByRecursion (λ y. has (f y) ds ≡ true) xs → length xs ≤ length ds
fits_length f xs ds a h = let k = fits f (λ _. 1) xs ds a h in let a2 = sum_ones xs in let b2 = sum_ones ds in omega (arith, k, a2, b2)

-- ---- the numbers below m
pub has_range : (n m : ℕ) → n < m → has n (range_with_len 0 m) ≡ true
has_range n m l = any_in (λ d. n == d) (range_with_len 0 m) n (in_range n m l) (eq-eqb n n refl)
