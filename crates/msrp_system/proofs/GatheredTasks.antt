-- What is gathered task by task, and resource by resource.
use Rattle.std.proofs.Common.{◌≡◌, ◌+◌, ◌||◌, ◌&&◌, ◌∷◌, ◌++◌, ◌∙◌, ◌==◌}
use Rattle.msrp_plan.proofs.Common.{ℕ, Bool, true, false, cond, List, [], map, max, refl, ap, sym, filter, list_any, fold, greatest, filter-append, fold-append, not, arith, PlanModel, uses, is_global, range_with_len, range_more, any_push, map-append}
use Rattle.msrp_system.specs.Inside.Views.{used_elsewhere}

-- the greatest image of those that pass, with one element more
greatest_push : {X : Type 0} (f : X → ℕ) (p : X → Bool) (xs : List X) (x : X) → greatest (map f (filter p (xs ++ x ∷ []))) ≡ cond (p x) (max (greatest (map f (filter p xs))) (f x)) (greatest (map f (filter p xs)))
greatest_push f p xs x = ap (λ ys. greatest (map f ys)) (filter-append p xs (x ∷ [])) ∙ (ap greatest (map-append f (filter p xs) (filter p (x ∷ []))) ∙ (fold-append max 0 (map f (filter p xs)) (map f (filter p (x ∷ []))) ∙ last (p x) (greatest (map f (filter p xs)))))
  where
    last : (b : Bool) (n : ℕ) → fold max n (map f (cond b (x ∷ []) [])) ≡ cond b (max n (f x)) n
    last true n = refl
    last false n = refl

-- ---- number by number
more : (n : ℕ) → range_with_len 0 (n + 1) ≡ range_with_len 0 n ++ n ∷ []
more n = range_more 0 n ∙ ap (λ k. range_with_len 0 n ++ k ∷ []) (omega arith)

pub greatest_range_with : (f : ℕ → ℕ) (p : ℕ → Bool) (n highest new : ℕ) → highest ≡ greatest (map f (filter p (range_with_len 0 n))) → p n ≡ true → new ≡ max highest (f n) → new ≡ greatest (map f (filter p (range_with_len 0 (n + 1))))
greatest_range_with f p n highest new h passes e =
    let ns = range_with_len 0 n in
    e ∙ (ap (λ m. max m (f n)) h ∙ sym (ap (λ ks. greatest (map f (filter p ks))) (more n) ∙ (greatest_push f p ns n ∙ ap (λ b. cond b (max (greatest (map f (filter p ns))) (f n)) (greatest (map f (filter p ns)))) passes)))

pub greatest_range_kept : (f : ℕ → ℕ) (p : ℕ → Bool) (n highest : ℕ) → highest ≡ greatest (map f (filter p (range_with_len 0 n))) → p n ≡ false → highest ≡ greatest (map f (filter p (range_with_len 0 (n + 1))))
greatest_range_kept f p n highest h fails =
    let ns = range_with_len 0 n in
    h ∙ sym (ap (λ ks. greatest (map f (filter p ks))) (more n) ∙ (greatest_push f p ns n ∙ ap (λ b. cond b (max (greatest (map f (filter p ns))) (f n)) (greatest (map f (filter p ns)))) fails))

pub any_range_none : (p : ℕ → Bool) (n : ℕ) → list_any p (range_with_len 0 n) ≡ false → p n ≡ false → list_any p (range_with_len 0 (n + 1)) ≡ false
any_range_none p n h fails = ap (list_any p) (more n) ∙ (any_push p (range_with_len 0 n) n ∙ (ap (λ b. b || p n) h ∙ fails))

-- ---- which resources are global
any_and : {X : Type 0} (k : Bool) (p : X → Bool) (xs : List X) → list_any (λ x. k && p x) xs ≡ (k && list_any p xs)
any_and true p xs = refl
any_and false p [] = refl
any_and false p (x ∷ xs) = any_and false p xs

any_agree : {X : Type 0} (p q : X → Bool) → ((x : X) → p x ≡ q x) → (xs : List X) → list_any p xs ≡ list_any q xs
any_agree p q e [] = refl
any_agree p q e (x ∷ xs) = ap (λ b. b || list_any p xs) (e x) ∙ ap (λ b. q x || b) (any_agree p q e xs)

-- a resource is global where another core uses it than one of its users
pub global_is : (plan : PlanModel) (g : ℕ) → list_any (λ a. uses g a && used_elsewhere g a.core plan.tasks) plan.tasks ≡ is_global plan g
global_is plan g = sym (any_agree (λ a. list_any (λ b. uses g a && (uses g b && not (a.core == b.core))) plan.tasks) (λ a. uses g a && used_elsewhere g a.core plan.tasks) (λ a. any_and (uses g a) (λ b. uses g b && not (a.core == b.core)) plan.tasks) plan.tasks)
