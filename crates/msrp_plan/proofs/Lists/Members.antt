-- Elements of lists: one that passes where some element does, those that a filter keeps, and one
-- that reaches the greatest.
use Rattle.msrp_plan.specs.Common.{ℕ, Bool, true, false, List, [], map, max, list_any, filter, Contains, greatest}
use Rattle.std.proofs.Common.{◌≡◌, ◌<◌, ◌≤◌, ◌||◌, ◌∷◌, ◌⊎◌, refl, arith, inl, inr}
use Rattle.std.specs.List.{fold}
use Rattle.std.proofs.lemmas.Bool.{cases_lt}
use Rattle.std.proofs.lemmas.List.Elements.{All-from_recursion, All-contains, All-contains_itself, recursion_from_All, Contains-append_right, filter_passes}
use Rattle.msrp_plan.proofs.Lists.AnyAll.{all_both}
use Rattle.msrp_plan.proofs.Lists.Least.{all_filtered}
use Rattle.msrp_plan.proofs.Lists.LeastKept.{kept_in}

-- ---- one element more in front
pub in_front : {X : Type 0} (x : X) (xs : List X) → Contains (x ∷ xs) x
in_front x xs = (0, omega arith, refl)

-- the others stay in
pub in_more : {X : Type 0} (y : X) (xs : List X) (x : X) → Contains xs x → Contains (y ∷ xs) x
in_more y xs x there = Contains-append_right (y ∷ []) xs x there

-- ---- where some element passes, one is found
any_go : {X : Type 0} (p : X → Bool) (x : X) (xs : List X) (b : Bool) → p x ≡ b → (b || list_any p xs) ≡ true → (list_any p xs ≡ true → (z : X) × Contains xs z × (p z ≡ true)) → (z : X) × Contains (x ∷ xs) z × (p z ≡ true)
any_go p x xs true e h rest = (x, in_front x xs, e)
any_go p x xs false e h rest = let k = rest h in (k.0, in_more x xs k.0 k.1, k.2)

pub any_from : {X : Type 0} (p : X → Bool) (xs : List X) → list_any p xs ≡ true → (z : X) × Contains xs z × (p z ≡ true)
any_from p [] h = absurd (cc)
any_from p (x ∷ xs) h = any_go p x xs (p x) refl h (any_from p xs)

-- ---- what a filter keeps
pub kept_by : {X : Type 0} (p : X → Bool) (xs : List X) (z : X) → Contains (filter p xs) z → Contains xs z × (p z ≡ true)
kept_by p xs z there =
    let among = all_filtered (Contains xs) p xs (recursion_from_All (Contains xs) xs (All-contains_itself xs)) in
    let passing = recursion_from_All (λ x. p x ≡ true) (filter p xs) (filter_passes p xs) in
    All-contains (λ x. Contains xs x × (p x ≡ true)) (filter p xs) z (All-from_recursion (λ x. Contains xs x × (p x ≡ true)) (filter p xs) (all_both (Contains xs) (λ x. p x ≡ true) (λ x. Contains xs x × (p x ≡ true)) (λ x a b. (a, b)) (filter p xs) among passing)) there

-- is each element that passes
pub in_filter : {X : Type 0} (p : X → Bool) (xs : List X) (x : X) → Contains xs x → p x ≡ true → Contains (filter p xs) x
in_filter p xs x there passes = kept_in (Contains (filter p xs)) p xs x (recursion_from_All (Contains (filter p xs)) (filter p xs) (All-contains_itself (filter p xs))) there passes

-- ---- some element reaches the greatest
reach_here : {X : Type 0} (f : X → ℕ) (l a : ℕ) (x : X) (xs : List X) → l ≤ max a (f x) → (l ≤ a) ⊎ ((z : X) × Contains (x ∷ xs) z × (l ≤ f z))
reach_here f l a x xs h = elim (cases_lt a l) [ inl k ↦ inr (x, in_front x xs, omega (arith, h, k)) | inr k ↦ inl k ]

reach : {X : Type 0} (f : X → ℕ) (l a : ℕ) (xs : List X) → l ≤ fold max a (map f xs) → (l ≤ a) ⊎ ((x : X) × Contains xs x × (l ≤ f x))
reach f l a [] h = inl h
reach f l a (x ∷ xs) h =
    elim (reach f l (max a (f x)) xs h) [
      | inl k ↦ reach_here f l a x xs k
      | inr k ↦ inr (k.0, in_more x xs k.0 k.1, k.2)
    ]

-- what isn't above the greatest isn't above one of them
pub reached : {X : Type 0} (f : X → ℕ) (l : ℕ) (xs : List X) → 0 < l → l ≤ greatest (map f xs) → (x : X) × Contains xs x × (l ≤ f x)
reached f l xs low h = elim (reach f l 0 xs h) [ inl k ↦ absurd (omega (arith, k, low)) | inr k ↦ k ]
