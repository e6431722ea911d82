-- The least and the greatest of what a filter keeps of a list: which elements they are, and what
-- they are below or above.
use Rattle.msrp_plan.specs.Common.{ℕ, Bool, true, false, cond, List, [], map, Some, None, max, filter, AllByRecursion, Contains, least, greatest}
use Rattle.std.proofs.Common.{◌≡◌, ◌≤◌, ◌∷◌, refl, subst, arith}
use Rattle.std.specs.List.{fold, best_of}
use Rattle.std.specs.Cmp.{IsStrictWeakOrder}
use Rattle.std.proofs.lemmas.List.Elements.{recursion_from_All, All-from_recursion, All-contains, All-contains_itself, filter_passes}
use Rattle.msrp_plan.proofs.Lists.Least.{all_filtered, least_meets}

-- ---- what holds of what a filter keeps
kept_cases : {X : Type 0} (P : X → Type 0) (b : Bool) (x : X) (ys : List X) → AllByRecursion P (cond b (x ∷ ys) ys) → (b ≡ true → P x) × AllByRecursion P ys
kept_cases P true x ys all = (λ h. all.0, all.1)
kept_cases P false x ys all = (λ h. absurd (cc), all)

-- what holds of all that a filter keeps holds of each that passes
all_kept : {X : Type 0} (P : X → Type 0) (p : X → Bool) (xs : List X) → AllByRecursion P (filter p xs) → AllByRecursion (λ x. p x ≡ true → P x) xs
all_kept P p [] all = tt
all_kept P p (x ∷ xs) all = let k = kept_cases P (p x) x (filter p xs) all in (k.0, all_kept P p xs k.1)

-- it holds of each element that passes
pub kept_in : {X : Type 0} (P : X → Type 0) (p : X → Bool) (xs : List X) (x : X) → AllByRecursion P (filter p xs) → Contains xs x → p x ≡ true → P x
kept_in P p xs x all there passes = All-contains (λ z. p z ≡ true → P z) xs x (All-from_recursion (λ z. p z ≡ true → P z) xs (all_kept P p xs all)) there passes

-- ---- the least is one that passes
-- the least of those that pass passes the test, and stands in the list
pub least_passes : {X : Type 0} (lt : X → X → Bool) (p : X → Bool) (xs : List X) (y : X) → least lt (filter p xs) ≡ Some y → p y ≡ true
least_passes lt p xs y h = least_meets lt (λ z. p z ≡ true) (filter p xs) y (recursion_from_All (λ z. p z ≡ true) (filter p xs) (filter_passes p xs)) h

-- and stands in the list
pub least_in : {X : Type 0} (lt : X → X → Bool) (p : X → Bool) (xs : List X) (y : X) → least lt (filter p xs) ≡ Some y → Contains xs y
least_in lt p xs y h = least_meets lt (Contains xs) (filter p xs) y (all_filtered (Contains xs) p xs (recursion_from_All (Contains xs) xs (All-contains_itself xs))) h

-- where an element passes there is a least
nobody : {X : Type 0} (lt : X → X → Bool) (xs : List X) → least lt xs ≡ None → AllByRecursion (λ (x : X). ⊥) xs
nobody lt [] h = tt
nobody lt (x ∷ xs) h = absurd (cc)

-- where an element passes there is a least
pub least_some : {X : Type 0} (lt : X → X → Bool) (p : X → Bool) (xs : List X) (x : X) → least lt (filter p xs) ≡ None → Contains xs x → p x ≡ true → ⊥
least_some lt p xs x h there passes = kept_in (λ _. ⊥) p xs x (nobody lt (filter p xs) h) there passes

-- ---- nothing in the list is below the least
irrefl_cases : (b : Bool) → (b ≡ true → b ≡ false) → b ≡ false
irrefl_cases true h = h refl
irrefl_cases false h = refl

-- nothing is before itself
pub irrefl : {X : Type 0} (lt : X → X → Bool) → IsStrictWeakOrder lt → (a : X) → lt a a ≡ false
irrefl lt o a = irrefl_cases (lt a a) (o.one_way a a)

-- one element more of the scan
best_step : {X : Type 0} (lt : X → X → Bool) → IsStrictWeakOrder lt → (a x : X) (xs : List X) (b : Bool) → lt x a ≡ b → (lt (cond b x a) (best_of lt (cond b x a) xs) ≡ false) × AllByRecursion (λ z. lt z (best_of lt (cond b x a) xs) ≡ false) xs
    → (lt a (best_of lt (cond b x a) xs) ≡ false) × AllByRecursion (λ z. lt z (best_of lt (cond b x a) xs) ≡ false) (x ∷ xs)
best_step lt o a x xs true e h = (o.chain a x (best_of lt x xs) (o.one_way x a e) h.0, (h.0, h.1))
best_step lt o a x xs false e h = (h.0, (o.chain x a (best_of lt a xs) e h.0, h.1))

-- no element of a list is before the best
best_below : {X : Type 0} (lt : X → X → Bool) → IsStrictWeakOrder lt → (a : X) (xs : List X) → (lt a (best_of lt a xs) ≡ false) × AllByRecursion (λ x. lt x (best_of lt a xs) ≡ false) xs
best_below lt o a [] = (irrefl lt o a, tt)
best_below lt o a (x ∷ xs) = best_step lt o a x xs (lt x a) refl (best_below lt o (cond (lt x a) x a) xs)

-- nor before the least
least_below : {X : Type 0} (lt : X → X → Bool) → IsStrictWeakOrder lt → (xs : List X) (y : X) → least lt xs ≡ Some y → AllByRecursion (λ x. lt x y ≡ false) xs
least_below lt o [] y h = absurd (cc)
least_below lt o (x ∷ xs) y h =
    let e : best_of lt x xs ≡ y = cc in
    let b = best_below lt o x xs in
    subst (λ z. AllByRecursion (λ w. lt w z ≡ false) (x ∷ xs)) e (b.0, b.1)

-- no element that passes is below the least of those that pass
pub least_of_those : {X : Type 0} (lt : X → X → Bool) → IsStrictWeakOrder lt → (p : X → Bool) (xs : List X) (y x : X) → least lt (filter p xs) ≡ Some y → Contains xs x → p x ≡ true → lt x y ≡ false
least_of_those lt o p xs y x h there passes = kept_in (λ z. lt z y ≡ false) p xs x (least_below lt o (filter p xs) y h) there passes

-- ---- the greatest is above each
max_above : (a : ℕ) (ns : List ℕ) → (a ≤ fold max a ns) × AllByRecursion (λ n. n ≤ fold max a ns) ns
max_above a [] = (omega arith, tt)
max_above a (n ∷ ns) = let h = max_above (max a n) ns in let k : max a n ≤ fold max (max a n) ns = h.0 in (omega arith, (omega arith, h.1))

-- what holds of all images holds of each through its element
all_mapped : {X : Type 0} (f : X → ℕ) (P : ℕ → Type 0) (xs : List X) → AllByRecursion P (map f xs) → AllByRecursion (λ x. P (f x)) xs
all_mapped f P [] all = tt
all_mapped f P (x ∷ xs) all = (all.0, all_mapped f P xs all.1)

-- the value of an element that passes is not above the greatest of those that pass
pub greatest_above : {X : Type 0} (f : X → ℕ) (p : X → Bool) (xs : List X) (x : X) → Contains xs x → p x ≡ true → f x ≤ greatest (map f (filter p xs))
greatest_above f p xs x there passes =
    let top = greatest (map f (filter p xs)) in
    kept_in (λ z. f z ≤ top) p xs x (all_mapped f (λ n. n ≤ top) (filter p xs) ((max_above 0 (map f (filter p xs))).1)) there passes

-- nor is the value of any element above the greatest of all
pub greatest_over : {X : Type 0} (f : X → ℕ) (xs : List X) (x : X) → Contains xs x → f x ≤ greatest (map f xs)
greatest_over f xs x there =
    let top = greatest (map f xs) in
    All-contains (λ z. f z ≤ top) xs x (All-from_recursion (λ z. f z ≤ top) xs (all_mapped f (λ n. n ≤ top) xs ((max_above 0 (map f xs)).1))) there
