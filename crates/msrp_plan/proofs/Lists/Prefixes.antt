-- What each element of a list meets over those before it: one element more, the parts of a list,
-- one place.
use Rattle.msrp_plan.specs.Common.{List, [], EachAfter}
use Rattle.std.proofs.Common.{◌≡◌, ◌∷◌, ◌++◌, refl, ap, sym, subst, append-nil, append_assoc}

-- one element more at the end
pub each_push : {X : Type 0} (P : List X → X → Type 0) (pre xs : List X) (x : X) → EachAfter P pre xs → P (pre ++ xs) x → EachAfter P pre (xs ++ x ∷ [])
each_push P pre [] x all h = (subst (λ ys. P ys x) (append-nil pre) h, tt)
each_push P pre (y ∷ xs) x all h = (all.0, each_push P (pre ++ y ∷ []) xs x all.1 (subst (λ ys. P ys x) (sym (append_assoc pre (y ∷ []) xs)) h))

-- two lists, the second after the first
pub each_append : {X : Type 0} (P : List X → X → Type 0) (pre xs ys : List X) → EachAfter P pre xs → EachAfter P (pre ++ xs) ys → EachAfter P pre (xs ++ ys)
each_append P pre [] ys a b = subst (λ l. EachAfter P l ys) (append-nil pre) b
each_append P pre (x ∷ xs) ys a b = (a.0, each_append P (pre ++ x ∷ []) xs ys a.1 (subst (λ l. EachAfter P l ys) (sym (append_assoc pre (x ∷ []) xs)) b))

-- the first part of a list
pub each_before : {X : Type 0} (P : List X → X → Type 0) (pre xs ys : List X) → EachAfter P pre (xs ++ ys) → EachAfter P pre xs
each_before P pre [] ys all = tt
each_before P pre (x ∷ xs) ys all = (all.0, each_before P (pre ++ x ∷ []) xs ys all.1)

-- the rest of a list
pub each_rest : {X : Type 0} (P : List X → X → Type 0) (pre xs ys : List X) → EachAfter P pre (xs ++ ys) → EachAfter P (pre ++ xs) ys
each_rest P pre [] ys all = subst (λ z. EachAfter P z ys) (sym (append-nil pre)) all
each_rest P pre (x ∷ xs) ys all = subst (λ z. EachAfter P z ys) (append_assoc pre (x ∷ []) xs) (each_rest P (pre ++ x ∷ []) xs ys all.1)

-- one place in a list
pub each_at : {X : Type 0} (P : List X → X → Type 0) (pre xs : List X) (x : X) (ys : List X) → EachAfter P pre (xs ++ x ∷ ys) → P (pre ++ xs) x
each_at P pre xs x ys all = let rest : EachAfter P (pre ++ xs) (x ∷ ys) = each_rest P pre xs (x ∷ ys) all in rest.0

-- from every place to the list
pub each_from : {X : Type 0} (P : List X → X → Type 0) (pre xs : List X) → ((a : List X) (x : X) (ys : List X) → xs ≡ a ++ x ∷ ys → P (pre ++ a) x) → EachAfter P pre xs
each_from P pre [] f = tt
each_from P pre (x ∷ xs) f = (
  subst (λ l. P l x) (append-nil pre) (f [] x xs refl),
  each_from P (pre ++ x ∷ []) xs (λ a y ys e. subst (λ l. P l y) (sym (append_assoc pre (x ∷ []) a)) (f (x ∷ a) y ys (ap (λ zs. x ∷ zs) e))),
)

-- what is weaker holds too
pub each_weaker : {X : Type 0} (P Q : List X → X → Type 0) → ((l : List X) (x : X) → P l x → Q l x) → (pre xs : List X) → EachAfter P pre xs → EachAfter Q pre xs
each_weaker P Q f pre [] all = tt
each_weaker P Q f pre (x ∷ xs) all = (f pre x all.0, each_weaker P Q f (pre ++ x ∷ []) xs all.1)

-- what two things imply together
pub each_both : {X : Type 0} (P Q R : List X → X → Type 0) → ((l : List X) (x : X) → P l x → Q l x → R l x) → (pre xs : List X) → EachAfter P pre xs → EachAfter Q pre xs → EachAfter R pre xs
each_both P Q R f pre [] a b = tt
each_both P Q R f pre (x ∷ xs) a b = (f pre x a.0 b.0, each_both P Q R f (pre ++ x ∷ []) xs a.1 b.1)

-- an invariant: what each element keeps holds after the list, if it held before
pub along : {X : Type 0} (I : List X → Type 0) (P : List X → X → Type 0) → ((pre : List X) (x : X) → I pre → P pre x → I (pre ++ x ∷ [])) → (pre xs : List X) → I pre → EachAfter P pre xs → I (pre ++ xs)
along I P step pre [] h all = subst I (sym (append-nil pre)) h
along I P step pre (x ∷ xs) h all = subst I (append_assoc pre (x ∷ []) xs) (along I P step (pre ++ x ∷ []) xs (step pre x h all.0) all.1)

-- what follows at each element from an invariant that each element keeps
pub each_along : {X : Type 0} (I : List X → Type 0) (P Q : List X → X → Type 0) → ((pre : List X) (x : X) → I pre → P pre x → I (pre ++ x ∷ [])) → ((pre : List X) (x : X) → I pre → P pre x → Q pre x)
    → (pre xs : List X) → I pre → EachAfter P pre xs → EachAfter Q pre xs
each_along I P Q step says pre [] h all = tt
each_along I P Q step says pre (x ∷ xs) h all = (says pre x h all.0, each_along I P Q step says (pre ++ x ∷ []) xs (step pre x h all.0) all.1)
