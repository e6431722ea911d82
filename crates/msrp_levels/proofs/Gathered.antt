-- Lists that are gathered number by number, and what is asked of their images.
use Rattle.std.proofs.Common.{◌≡◌, ◌+◌, ◌<◌, ◌∷◌, ◌++◌, ◌∙◌}
use Rattle.msrp_plan.proofs.Common.{ℕ, zero, suc, Bool, true, false, cond, List, [], map, replicate, refl, ap, sym, arith, append-nil, AllByRecursion, filter, range_with_len, sum_by, filter-append, sum_by-append, sum_by-cons, map-map, greatest, all_of, range_more}
use Rattle.msrp_plan.proofs.Lists.Filters.{filter_map_same}

-- the numbers of a range are below its end
pub range_below : (a n m : ℕ) → a + n ≡ m → AllByRecursion (λ k. k < m) (range_with_len a n)
range_below a zero m e = tt
range_below a (suc n) m e = (omega (arith, e), range_below (a + 1) n m (omega (arith, e)))

-- a function that is the same everywhere has as many equal images
pub map_constant : {X : Type 0} (f : ℕ → X) (x : X) → ((k : ℕ) → f k ≡ x) → (a n : ℕ) → map f (range_with_len a n) ≡ replicate n x
map_constant f x each a zero = refl
map_constant f x each a (suc n) = ap (λ y. y ∷ map f (range_with_len (a + 1) n)) (each a) ∙ ap (λ ys. x ∷ ys) (map_constant f x each (a + 1) n)

-- functions that agree on a list have the same images
pub map_agree : {X Y : Type 0} (f g : X → Y) (xs : List X) → AllByRecursion (λ x. f x ≡ g x) xs → map f xs ≡ map g xs
map_agree f g [] all = refl
map_agree f g (x ∷ xs) all = ap (λ y. y ∷ map f xs) all.0 ∙ ap (λ ys. g x ∷ ys) (map_agree f g xs all.1)

-- and the same sum
pub sum_agree : {X : Type 0} (f g : X → ℕ) (xs : List X) → AllByRecursion (λ x. f x ≡ g x) xs → sum_by f xs ≡ sum_by g xs
sum_agree f g [] all = refl
sum_agree f g (x ∷ xs) all =
    let a = sum_by-cons f x xs in
    let b = sum_by-cons g x xs in
    let rest = sum_agree f g xs all.1 in
    omega (arith, a, b, rest, all.0)

-- a filtered range of one number more
pub filter_more_range : (p : ℕ → Bool) (n : ℕ) → filter p (range_with_len 0 (n + 1)) ≡ filter p (range_with_len 0 n) ++ cond (p n) (n ∷ []) []
filter_more_range p n = ap (filter p) (range_more 0 n) ∙ (filter-append p (range_with_len 0 n) ((0 + n) ∷ []) ∙ ap (λ k. filter p (range_with_len 0 n) ++ cond (p k) (k ∷ []) []) (omega arith))

-- and its sum
pub sum_more_range : (f : ℕ → ℕ) (p : ℕ → Bool) (n : ℕ) → sum_by f (filter p (range_with_len 0 (n + 1))) ≡ sum_by f (filter p (range_with_len 0 n)) + cond (p n) (f n) 0
sum_more_range f p n =
    ap (sum_by f) (filter_more_range p n) ∙ (sum_by-append f (filter p (range_with_len 0 n)) (cond (p n) (n ∷ []) []) ∙ ap (λ k. sum_by f (filter p (range_with_len 0 n)) + k) (last (p n)))
  where
    last : (b : Bool) → sum_by f (cond b (n ∷ []) []) ≡ cond b (f n) 0
    last true = sum_by-cons f n [] ∙ omega arith
    last false = refl

-- the greatest of some images, told by the elements
pub greatest_image : {X Y : Type 0} (k : X → Y) (h : Y → ℕ) (q : Y → Bool) (m : X → ℕ) (p : X → Bool) → ((x : X) → q (k x) ≡ p x) → ((x : X) → h (k x) ≡ m x) → (xs : List X) → greatest (map h (filter q (map k xs))) ≡ greatest (map m (filter p xs))
greatest_image k h q m p tests values xs =
    ap (λ ys. greatest (map h ys)) (filter_map_same k p q (λ x. p x ≡ p x) (λ x _. tests x) xs (all_of (λ x. p x ≡ p x) (λ x. refl) xs))
    ∙ ap greatest (map-map h k (filter p xs) ∙ map_agree (λ x. h (k x)) m (filter p xs) (all_of (λ x. h (k x) ≡ m x) values (filter p xs)))

-- the numbers that pass, gathered: one more that passes
pub gather_yes : (p : ℕ → Bool) (n : ℕ) (old new : List ℕ) → p n ≡ true → old ≡ filter p (range_with_len 0 n) → new ≡ old ++ n ∷ [] → new ≡ filter p (range_with_len 0 (n + 1))
gather_yes p n old new passes before more =
    more ∙ (ap (λ ks. ks ++ n ∷ []) before ∙ sym (filter_more_range p n ∙ ap (λ b. filter p (range_with_len 0 n) ++ cond b (n ∷ []) []) passes))

-- and one that doesn't
pub gather_no : (p : ℕ → Bool) (n : ℕ) (old : List ℕ) → p n ≡ false → old ≡ filter p (range_with_len 0 n) → old ≡ filter p (range_with_len 0 (n + 1))
gather_no p n old fails before =
    before ∙ sym (filter_more_range p n ∙ (ap (λ b. filter p (range_with_len 0 n) ++ cond b (n ∷ []) []) fails ∙ append-nil (filter p (range_with_len 0 n))))
