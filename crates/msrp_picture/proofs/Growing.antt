-- Lists that grow part by part.
use Rattle.std.proofs.Common.{◌≡◌, ◌+◌, ◌∷◌, ◌++◌, ◌∙◌}
use Rattle.msrp_plan.proofs.Common.{ℕ, Bool, true, false, cond, List, [], refl, ap, sym, append_assoc, append-nil, arith, map, flat_map-append, filter-append, filter, flat_map, range_with_len, flat_more, range_more, map-append}

-- by one part, and then by another
pub grows : {X : Type 0} (a b c x y : List X) → b ≡ a ++ x → c ≡ b ++ y → c ≡ a ++ (x ++ y)
grows a b c x y e f = f ∙ (ap (λ t. t ++ y) e ∙ append_assoc a x y)

-- by the part of one number more
pub grows-each : {X : Type 0} (f : ℕ → List X) (n : ℕ) (a b c : List X) → b ≡ a ++ flat_map f (range_with_len 0 n) → c ≡ b ++ f n → c ≡ a ++ flat_map f (range_with_len 0 (n + 1))
grows-each f n a b c e h = grows a b c _ _ e h ∙ ap (λ t. a ++ t) (sym (flat_more f n))

-- one number more
range-grown : (n : ℕ) → range_with_len 0 (n + 1) ≡ range_with_len 0 n ++ n ∷ []
range-grown n = let at : 0 + n ≡ n = omega arith in range_more 0 n ∙ ap (λ k. range_with_len 0 n ++ k ∷ []) at

-- by the image of one number more
pub grows-map2 : {X Y : Type 0} (f : X → Y) (h : ℕ → X) (n : ℕ) (a b c : List Y) → b ≡ a ++ map f (map h (range_with_len 0 n)) → c ≡ b ++ f (h n) ∷ [] → c ≡ a ++ map f (map h (range_with_len 0 (n + 1)))
grows-map2 f h n a b c e k =
    let more = ap (λ ns. map f (map h ns)) (range-grown n) ∙ (ap (map f) (map-append h (range_with_len 0 n) (n ∷ [])) ∙ map-append f (map h (range_with_len 0 n)) (h n ∷ [])) in
    grows a b c _ _ e k ∙ ap (λ t. a ++ t) (sym more)

-- by the part of one number more, if that passes a test
chosen : {X : Type 0} (f : ℕ → List X) (n : ℕ) (b : Bool) → flat_map f (cond b (n ∷ []) []) ≡ cond b (f n) []
chosen f n true = append-nil (f n)
chosen f n false = refl

pub some-more : (p : ℕ → Bool) (n : ℕ) → filter p (range_with_len 0 (n + 1)) ≡ filter p (range_with_len 0 n) ++ cond (p n) (n ∷ []) []
some-more p n = ap (filter p) (range-grown n) ∙ filter-append p (range_with_len 0 n) (n ∷ [])

pub grows-some : {X : Type 0} (p : ℕ → Bool) (f : ℕ → List X) (n : ℕ) (a b c : List X) → b ≡ a ++ flat_map f (filter p (range_with_len 0 n)) → c ≡ b ++ cond (p n) (f n) []
    → c ≡ a ++ flat_map f (filter p (range_with_len 0 (n + 1)))
grows-some p f n a b c e h =
    let whole = ap (flat_map f) (some-more p n) ∙ (flat_map-append f (filter p (range_with_len 0 n)) (cond (p n) (n ∷ []) []) ∙ ap (λ t. flat_map f (filter p (range_with_len 0 n)) ++ t) (chosen f n (p n))) in
    grows a b c _ _ e h ∙ ap (λ t. a ++ t) (sym whole)
