-- Lists read in the other direction.
use Rattle.std.proofs.Common.{◌≡◌, ◌∷◌, ◌++◌, ◌∙◌}
use Rattle.msrp_plan.proofs.Common.{List, [], reverse, Bool, true, false, cond, fold, refl, sym, ap, subst, append-nil, filter, AllByRecursion, filter-append, all_push}
use Rattle.std.proofs.lemmas.List.{reverse-append}
use Rattle.msrp_board.proofs.Common.{IsChain}

pub reverse_cons : {X : Type 0} (x : X) (xs : List X) → reverse (x ∷ xs) ≡ reverse xs ++ x ∷ []
reverse_cons x xs = reverse-append (x ∷ []) xs

pub fold_last : {A B : Type 0} (f : B → A → B) (a : B) (xs : List A) (x : A) → fold f a (xs ++ x ∷ []) ≡ f (fold f a xs) x
fold_last f a [] x = refl
fold_last f a (y ∷ ys) x = fold_last f (f a y) ys x

pub all_reversed : {X : Type 0} (P : X → Type 0) (xs : List X) → AllByRecursion P xs → AllByRecursion P (reverse xs)
all_reversed P [] h = tt
all_reversed P (x ∷ xs) h = subst (AllByRecursion P) (sym (reverse_cons x xs)) (all_push P (reverse xs) x (all_reversed P xs h.1) h.0)

last_kept : {X : Type 0} (x : X) (b : Bool) (l : List X) → reverse l ++ cond b (x ∷ []) [] ≡ reverse (cond b (x ∷ l) l)
last_kept x true l = sym (reverse_cons x l)
last_kept x false l = append-nil (reverse l)

pub filter_reversed : {X : Type 0} (p : X → Bool) (xs : List X) → filter p (reverse xs) ≡ reverse (filter p xs)
filter_reversed p [] = refl
filter_reversed p (x ∷ xs) = ap (filter p) (reverse_cons x xs) ∙ filter-append p (reverse xs) (x ∷ []) ∙ ap (λ l. l ++ cond (p x) (x ∷ []) []) (filter_reversed p xs) ∙ last_kept x (p x) (filter p xs)

chain_last : {X : Type 0} (R : X → X → Type 0) (xs : List X) (y x : X) → IsChain R (xs ++ y ∷ []) → R y x → IsChain R ((xs ++ y ∷ []) ++ x ∷ [])
chain_last R [] y x c r = (r, (tt, tt))
chain_last R (z ∷ []) y x c r = (c.0, chain_last R [] y x c.1 r)
chain_last R (z ∷ w ∷ xs) y x c r = (c.0, chain_last R (w ∷ xs) y x c.1 r)

-- a chain, read backwards
pub chain_reversed : {X : Type 0} (R : X → X → Type 0) (xs : List X) → IsChain (λ x y. R y x) xs → IsChain R (reverse xs)
chain_reversed R [] c = tt
chain_reversed R (x ∷ []) c = (tt, tt)
chain_reversed R (x ∷ y ∷ xs) c = subst (IsChain R) (sym (reverse_cons x (y ∷ xs) ∙ ap (λ l. l ++ x ∷ []) (reverse_cons y xs)))
    (chain_last R (reverse xs) y x (subst (IsChain R) (reverse_cons y xs) (chain_reversed R (y ∷ xs) c.1)) c.0)
