-- Filters, tests and counts of a list, where one test implies or equals another.
use Rattle.msrp_plan.specs.Common.{Option, Bool, true, false, cond, List, [], map, length, filter, filter_map, cons_option, list_any, AllByRecursion}
use Rattle.std.proofs.Common.{◌≡◌, ◌+◌, ◌||◌, ◌∷◌, refl, ap, sym, ◌∙◌}
use Rattle.std.specs.List.{count_by}
use Rattle.std.proofs.lemmas.List.Sums.{length-filter}
use Rattle.std.proofs.lemmas.List.Folds.{fold-map}

-- what is never true is false
is_false : (b : Bool) → (b ≡ true → false ≡ true) → b ≡ false
is_false true h = sym (h refl)
is_false false h = refl

-- by whether the first element passes q
filter_within_cases : {X : Type 0} (p : X → Bool) (x : X) (b : Bool) (ys zs : List X) → (p x ≡ true → b ≡ true) → filter p ys ≡ zs → filter p (cond b (x ∷ ys) ys) ≡ cond (p x) (x ∷ zs) zs
filter_within_cases p x true ys zs h e = ap (λ w. cond (p x) (x ∷ w) w) e
filter_within_cases p x false ys zs h e = e ∙ ap (λ b. cond b (x ∷ zs) zs) (sym (is_false (p x) h))

-- where p implies q, to filter by q first makes no difference to a filter by p
pub filter_within : {X : Type 0} (p q : X → Bool) (xs : List X) → AllByRecursion (λ x. p x ≡ true → q x ≡ true) xs → filter p (filter q xs) ≡ filter p xs
filter_within p q [] all = refl
filter_within p q (x ∷ xs) all = filter_within_cases p x (q x) (filter q xs) (filter p xs) all.0 (filter_within p q xs all.1)

-- by whether the first element passes q
any_within_cases : {X : Type 0} (p : X → Bool) (x : X) (b : Bool) (ys : List X) (c : Bool) → (p x ≡ true → b ≡ true) → list_any p ys ≡ c → list_any p (cond b (x ∷ ys) ys) ≡ p x || c
any_within_cases p x true ys c h e = ap (λ w. p x || w) e
any_within_cases p x false ys c h e = e ∙ ap (λ b. b || c) (sym (is_false (p x) h))

-- nor to whether some element passes p
pub any_within : {X : Type 0} (p q : X → Bool) (xs : List X) → AllByRecursion (λ x. p x ≡ true → q x ≡ true) xs → list_any p (filter q xs) ≡ list_any p xs
any_within p q [] all = refl
any_within p q (x ∷ xs) all = any_within_cases p x (q x) (filter q xs) (list_any p xs) all.0 (any_within p q xs all.1)

-- nor to how many pass p
pub count_within : {X : Type 0} (p q : X → Bool) (xs : List X) → AllByRecursion (λ x. p x ≡ true → q x ≡ true) xs → count_by p (filter q xs) ≡ count_by p xs
count_within p q xs all = sym (length-filter p (filter q xs)) ∙ (ap length (filter_within p q xs all) ∙ length-filter p xs)

-- tests that agree on a list filter it alike
pub filter_same : {X : Type 0} (p q : X → Bool) (xs : List X) → AllByRecursion (λ x. p x ≡ q x) xs → filter p xs ≡ filter q xs
filter_same p q [] all = refl
filter_same p q (x ∷ xs) all = ap (λ b. cond b (x ∷ filter p xs) (filter p xs)) all.0 ∙ ap (λ ys. cond (q x) (x ∷ ys) ys) (filter_same p q xs all.1)

-- and some element passes both or neither
pub any_same : {X : Type 0} (p q : X → Bool) (xs : List X) → AllByRecursion (λ x. p x ≡ q x) xs → list_any p xs ≡ list_any q xs
any_same p q [] all = refl
any_same p q (x ∷ xs) all = ap (λ b. b || list_any p xs) all.0 ∙ ap (λ b. q x || b) (any_same p q xs all.1)

-- a fact of everything
pub all_of : {X : Type 0} (P : X → Type 0) → ((x : X) → P x) → (xs : List X) → AllByRecursion P xs
all_of P f [] = tt
all_of P f (x ∷ xs) = (f x, all_of P f xs)

-- the image of a list whose first element may be dropped
map_kept : {X Y : Type 0} (f : X → Y) (b : Bool) (x : X) (xs : List X) → cond b (f x ∷ map f xs) (map f xs) ≡ map f (cond b (x ∷ xs) xs)
map_kept f true x xs = refl
map_kept f false x xs = refl

-- where images pass a test as elements do, to filter the images is to map what the filter keeps
pub filter_map_same : {X Y : Type 0} (f : X → Y) (p : X → Bool) (q : Y → Bool) (P : X → Type 0) → ((x : X) → P x → q (f x) ≡ p x) → (xs : List X) → AllByRecursion P xs → filter q (map f xs) ≡ map f (filter p xs)
filter_map_same f p q P agree [] all = refl
filter_map_same f p q P agree (x ∷ xs) all =
    ap (λ b. cond b (f x ∷ filter q (map f xs)) (filter q (map f xs))) (agree x all.0)
    ∙ (ap (λ ys. cond (p x) (f x ∷ ys) ys) (filter_map_same f p q P agree xs all.1) ∙ map_kept f (p x) x (filter p xs))

-- some image passes where an element's image does
pub any_map : {X Y : Type 0} (f : X → Y) (q : Y → Bool) (xs : List X) → list_any q (map f xs) ≡ list_any (λ x. q (f x)) xs
any_map f q [] = refl
any_map f q (x ∷ xs) = ap (λ b. q (f x) || b) (any_map f q xs)

-- as many images pass as elements do whose image does
pub count_map : {X Y : Type 0} (f : X → Y) (q : Y → Bool) (xs : List X) → count_by q (map f xs) ≡ count_by (λ x. q (f x)) xs
count_map f q xs = fold-map (λ n y. n + cond (q y) 1 0) f 0 xs

-- what is gathered from images is gathered from the elements
pub gathered_map : {X Y Z : Type 0} (f : X → Y) (h : Y → Option Z) (xs : List X) → filter_map h (map f xs) ≡ filter_map (λ x. h (f x)) xs
gathered_map f h [] = refl
gathered_map f h (x ∷ xs) = ap (cons_option (h (f x))) (gathered_map f h xs)
