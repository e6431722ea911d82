-- Facts on lists and their tests that the kit's library lacks.
use Rattle.msrp_plan.specs.Common.{ℕ, zero, suc, Bool, true, false, cond, List, [], Some, length, slice_get, list_any, filter, flat_map, AllByRecursion, Contains, range_with_len}
use Rattle.std.proofs.Common.{◌≡◌, ◌<◌, ◌||◌, ◌∷◌, ◌++◌, refl, ap, sym, ◌∙◌, subst, arith}
use Rattle.std.proofs.Math.Bool.{or-false}
use Rattle.std.proofs.lemmas.Bool.{or_parts}
use Rattle.std.proofs.lemmas.List.Folds.{list_any-append, list_any_at}
use Rattle.std.proofs.lemmas.List.FromFn.{length-range_with_len, get_or-range_with_len}

-- a test of some element, where one more stands at the end
pub any_push : {X : Type 0} (p : X → Bool) (xs : List X) (y : X) → list_any p (xs ++ y ∷ []) ≡ list_any p xs || p y
any_push p xs y = list_any-append p xs (y ∷ []) ∙ ap (λ b. list_any p xs || b) (or-false (p y))

-- an element of the list that passes makes the test of some element pass
pub any_in : {X : Type 0} (p : X → Bool) (xs : List X) (x : X) → Contains xs x → p x ≡ true → list_any p xs ≡ true
any_in p xs x there passes = list_any_at p xs there.0 x there.1 (ap p there.2 ∙ passes)

-- what holds of every element holds of it weakened
pub all_weaker : {X : Type 0} (P Q : X → Type 0) → ((x : X) → P x → Q x) → (xs : List X) → AllByRecursion P xs → AllByRecursion Q xs
all_weaker P Q f [] all = tt
all_weaker P Q f (x ∷ xs) all = (f x all.0, all_weaker P Q f xs all.1)

-- two things that hold of every element hold of it together
pub all_both : {X : Type 0} (P Q R : X → Type 0) → ((x : X) → P x → Q x → R x) → (xs : List X) → AllByRecursion P xs → AllByRecursion Q xs → AllByRecursion R xs
all_both P Q R f [] a b = tt
all_both P Q R f (x ∷ xs) a b = (f x a.0 b.0, all_both P Q R f xs a.1 b.1)

-- what holds of every element, and of one more at the end
pub all_push : {X : Type 0} (P : X → Type 0) (xs : List X) (y : X) → AllByRecursion P xs → P y → AllByRecursion P (xs ++ y ∷ [])
all_push P [] y all h = (h, tt)
all_push P (x ∷ xs) y all h = (all.0, all_push P xs y all.1 h)

-- what holds of two lists holds of both together
pub all_joined : {X : Type 0} (P : X → Type 0) (xs ys : List X) → AllByRecursion P xs → AllByRecursion P ys → AllByRecursion P (xs ++ ys)
all_joined P [] ys a b = b
all_joined P (x ∷ xs) ys a b = (a.0, all_joined P xs ys a.1 b)

-- what holds of each list holds of all of them together
pub all_flat : {X Y : Type 0} (P : Y → Type 0) (f : X → List Y) → ((x : X) → AllByRecursion P (f x)) → (xs : List X) → AllByRecursion P (flat_map f xs)
all_flat P f each [] = tt
all_flat P f each (x ∷ xs) = all_joined P (f x) (flat_map f xs) (each x) (all_flat P f each xs)

-- what holds of every element holds of one amid them
pub all_mid : {X : Type 0} (P : X → Type 0) (xs : List X) (x : X) (ys : List X) → AllByRecursion P (xs ++ x ∷ ys) → P x
all_mid P [] x ys all = all.0
all_mid P (z ∷ xs) x ys all = all_mid P xs x ys all.1

-- what holds of every element at its place, and of one more at the end
pub places_push : {X : Type 0} (P : ℕ → X → Type 0) (xs : List X) (y : X) → ((k : ℕ) (x : X) → slice_get xs k ≡ Some x → P k x) → P (length xs) y → (k : ℕ) (x : X) → slice_get (xs ++ y ∷ []) k ≡ Some x → P k x
places_push P [] y old new zero x h = let s : y ≡ x = cc in subst (P 0) s new
places_push P [] y old new (suc k) x h = absurd (cc)
places_push P (z ∷ xs) y old new zero x h = old 0 x h
places_push P (z ∷ xs) y old new (suc k) x h = places_push (λ n. P (suc n)) xs y (λ n. old (suc n)) (subst (λ n. P n y) (omega arith) new) k x h

-- where no element passes a test, a filter by a stricter test keeps none
pub none_kept : {X : Type 0} (p q : X → Bool) → ((x : X) → p x ≡ false → q x ≡ false) → (xs : List X) → list_any p xs ≡ false → filter q xs ≡ []
none_kept p q f [] h = refl
none_kept p q f (x ∷ xs) h = let both = or_parts (p x) (list_any p xs) h in ap (λ b. cond b (x ∷ filter q xs) (filter q xs)) (f x both.0) ∙ none_kept p q f xs both.1

-- the numbers below m are those of the range
pub in_range : (n m : ℕ) → n < m → Contains (range_with_len 0 m) n
in_range n m l = (n, subst (λ k. n < k) (sym (length-range_with_len 0 m)) l, get_or-range_with_len 0 m n n l ∙ omega arith)
