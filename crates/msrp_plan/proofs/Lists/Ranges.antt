-- Ranges of numbers: one number more, and how often a number stands in a range.
use Rattle.msrp_plan.specs.Common.{ℕ, zero, suc, Bool, true, false, cond, List, [], map, length, filter, flat_map, range_with_len}
use Rattle.std.proofs.Common.{◌≡◌, ◌≢◌, ◌+◌, ◌*◌, ◌<◌, ◌≤◌, ◌==◌, ◌∷◌, ◌++◌, refl, ap, sym, ◌∙◌, arith, length-append, append-nil}
use Rattle.std.proofs.lemmas.List.Elements.{filter-append}
use Rattle.std.proofs.lemmas.List.FromFn.{map-range_with_len_more}
use Rattle.std.proofs.lemmas.Grind.{flat_map-append}
use Rattle.std.proofs.lemmas.Bool.Decides.{nat_tests}

-- each number as its own image
map_same : (ns : List ℕ) → map (λ n. n) ns ≡ ns
map_same [] = refl
map_same (n ∷ ns) = ap (λ ms. n ∷ ms) (map_same ns)

-- a range of one number more
pub range_more : (a n : ℕ) → range_with_len a (n + 1) ≡ range_with_len a n ++ (a + n) ∷ []
range_more a n = sym (map_same (range_with_len a (n + 1))) ∙ (map-range_with_len_more (λ n. n) a n (a + n) refl ∙ ap (λ ns. ns ++ (a + n) ∷ []) (map_same (range_with_len a n)))

-- the lists of one number more, put together
pub flat_more : {X : Type 0} (f : ℕ → List X) (n : ℕ) → flat_map f (range_with_len 0 (n + 1)) ≡ flat_map f (range_with_len 0 n) ++ f n
flat_more f n = ap (flat_map f) (range_more 0 n) ∙ (flat_map-append f (range_with_len 0 n) ((0 + n) ∷ []) ∙ ap (λ ys. flat_map f (range_with_len 0 n) ++ ys) (append-nil (f (0 + n)) ∙ ap f (omega arith)))

-- numbers that differ fail the test
pub not_equal : (a b : ℕ) → a ≢ b → (a == b) ≡ false
not_equal a b h = grind (arith, nat_tests)

-- a number below a range does not stand in it
pub below_range : (d a n : ℕ) → d < a → filter (λ k. k == d) (range_with_len a n) ≡ []
below_range d a zero h = refl
below_range d a (suc n) h =
    ap (λ b. cond b (a ∷ filter (λ k. k == d) (range_with_len (a + 1) n)) (filter (λ k. k == d) (range_with_len (a + 1) n))) (not_equal a d (λ e. absurd (omega arith)))
    ∙ below_range d (a + 1) n (omega arith)

-- nor does one past its end
pub past_range : (d a n : ℕ) → a + n ≤ d → filter (λ k. k == d) (range_with_len a n) ≡ []
past_range d a zero h = refl
past_range d a (suc n) h =
    ap (λ b. cond b (a ∷ filter (λ k. k == d) (range_with_len (a + 1) n)) (filter (λ k. k == d) (range_with_len (a + 1) n))) (not_equal a d (λ e. absurd (omega arith)))
    ∙ past_range d (a + 1) n (omega arith)

-- by whether the first number is it
once_cases : (d a n : ℕ) (b : Bool) → (a == d) ≡ b → (a ≡ d → filter (λ k. k == d) (range_with_len (a + 1) n) ≡ []) → (a ≢ d → length (filter (λ k. k == d) (range_with_len (a + 1) n)) ≡ 1)
    → length (cond b (a ∷ filter (λ k. k == d) (range_with_len (a + 1) n)) (filter (λ k. k == d) (range_with_len (a + 1) n))) ≡ 1
once_cases d a n true e here later = ap (λ ks. length (a ∷ ks)) (here (grind (arith, nat_tests)))
once_cases d a n false e here later = later (grind (arith, nat_tests))

-- a number in a range stands in it once
pub once_in_range : (d a n : ℕ) → a ≤ d → d < a + n → length (filter (λ k. k == d) (range_with_len a n)) ≡ 1
once_in_range d a zero l h = absurd (omega arith)
once_in_range d a (suc n) l h = once_cases d a n (a == d) refl (λ e. below_range d (a + 1) n (omega arith)) (λ ne. once_in_range d (a + 1) n (omega arith) (omega arith))

-- where f gives a list of n elements at each number
pub flat_length : {X : Type 0} (f : ℕ → List X) (n : ℕ) → ((k : ℕ) → length (f k) ≡ n) → (ks : List ℕ) → length (flat_map f ks) ≡ length ks * n
flat_length f n each [] = omega arith
flat_length f n each (k ∷ ks) = let a = each k in let b = flat_length f n each ks in let e = length-append (f k) (flat_map f ks) in e ∙ grind arith

-- a filter of lists that are put together
pub flat_filter : {X : Type 0} (p : X → Bool) (f : ℕ → List X) (ks : List ℕ) → filter p (flat_map f ks) ≡ flat_map (λ k. filter p (f k)) ks
flat_filter p f [] = refl
flat_filter p f (k ∷ ks) = filter-append p (f k) (flat_map f ks) ∙ ap (λ ys. filter p (f k) ++ ys) (flat_filter p f ks)

-- by whether the first image passes
filter_map_cases : {X Y : Type 0} (f : X → Y) (b : Bool) (x : X) (ys : List Y) (xs : List X) → length ys ≡ length xs → length (cond b (f x ∷ ys) ys) ≡ length (cond b (x ∷ xs) xs)
filter_map_cases f true x ys xs e = omega (arith, e)
filter_map_cases f false x ys xs e = e

-- as many images pass a test as elements whose image passes
pub length_filter_map : {X Y : Type 0} (f : X → Y) (q : Y → Bool) (xs : List X) → length (filter q (map f xs)) ≡ length (filter (λ x. q (f x)) xs)
length_filter_map f q [] = refl
length_filter_map f q (x ∷ xs) = filter_map_cases f (q (f x)) x (filter q (map f xs)) (filter (λ x. q (f x)) xs) (length_filter_map f q xs)
