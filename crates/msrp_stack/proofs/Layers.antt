-- The ceiling that rises from one held resource to the next is the core's current ceiling.
use Rattle.std.proofs.Common.{◌≡◌, ◌<◌, ◌≤◌, ◌&&◌, ◌||◌, ◌∷◌, ◌∙◌}
use Rattle.msrp_plan.proofs.Common.{ℕ, Bool, true, false, cond, not, max, nat_eq, List, [], map, reverse, length, refl, ap, sym, subst, arith, inl, inr, list_any, filter, flat_map, or-true, and_parts, cases_Bool, list_any-append, PlanModel, is_global, local_ceiling, top, greatest, resources, raised_with, ceiling_with, any_in, any_map, greatest_above, in_resources}
use Rattle.msrp_stack.proofs.Common.{Held, Layers, Started, ceiling_at, fold, is_held, started_view}
use Rattle.std.proofs.lemmas.Bool.{eqb-true, eq-eqb}

-- the resource is one of those held
abbrev pub is_layer : List Held → ℕ → Bool
is_layer hs g = list_any (λ h. nat_eq g h.res.0) hs

-- ---- what the started jobs hold, in one list
pub held_in_layers : (xs : List Started) (g : ℕ) → is_held (map started_view xs) g ≡ is_layer (flat_map (λ s. reverse s.held.items) xs) g
held_in_layers [] g = refl
held_in_layers (x ∷ xs) g =
    ap (λ b. b || is_held (map started_view xs) g) (any_map (λ h. h.res.0) (nat_eq g) (reverse x.held.items))
    ∙ (ap (λ b. is_layer (reverse x.held.items) g || b) (held_in_layers xs g) ∙ sym (list_any-append (λ h. nat_eq g h.res.0) (reverse x.held.items) (flat_map (λ s. reverse s.held.items) xs)))

-- ---- the ceiling of the layers is between
-- it is not above what no held resource's ceiling is above
pub layers_below : (plan : PlanModel) (c n : ℕ) (hs : List Held) (current : ℕ) → Layers plan c current hs → ((g : ℕ) → is_layer hs g ≡ true → g < length plan.resources → ceiling_at plan g c ≤ n) → current ≤ n
layers_below plan c n [] current l f = omega (arith, l)
layers_below plan c n (h ∷ hs) current l f =
    let one = f h.res.0 (ap (λ b. b || is_layer hs h.res.0) (eq-eqb h.res.0 h.res.0 refl)) l.0 in
    let rest = layers_below plan c n hs h.before l.2 (λ g e. f g (ap (λ b. nat_eq g h.res.0 || b) e ∙ or-true (nat_eq g h.res.0))) in
    omega (arith, one, rest, l.1)

-- and not below that of any held resource
pub layers_above : (plan : PlanModel) (c : ℕ) (hs : List Held) (current g : ℕ) → Layers plan c current hs → is_layer hs g ≡ true → ceiling_at plan g c ≤ current
layers_above plan c [] current g l e = absurd (cc)
layers_above plan c (h ∷ hs) current g l e =
    elim (cases_Bool (nat_eq g h.res.0)) [
      | inl t ↦
          let k : ceiling_at plan g c ≤ ceiling_at plan h.res.0 c = subst (λ m. ceiling_at plan g c ≤ ceiling_at plan m c) (eqb-true g h.res.0 t) (omega arith) in
          omega (arith, k, l.1)
      | inr f ↦
          let k = layers_above plan c hs h.before g l.2 (sym (ap (λ b. b || is_layer hs g) f) ∙ e) in
          omega (arith, k, l.1)
    ]

-- ---- so is the current ceiling
-- the ceiling of a held resource is not above it
held_below : (plan : PlanModel) (c g : ℕ) (held : ℕ → Bool) → g < length plan.resources → held g ≡ true → ceiling_at plan g c ≤ ceiling_with plan c false held
held_below plan c g held l h =
    elim (cases_Bool (is_global plan g)) [
      | inl t ↦
          let named = in_resources plan g l in
          let raised : raised_with plan false held ≡ true = any_in (λ x. is_global plan x && held x) (resources plan) g named (ap (λ b. b && held g) t ∙ h) in
          let is : ceiling_at plan g c ≡ top plan c = ap (λ b. cond b (top plan c) (local_ceiling plan g)) t in
          let up : cond (raised_with plan false held) (top plan c) 0 ≡ top plan c = ap (λ b. cond b (top plan c) 0) raised in
          omega (arith, is, up)
      | inr f ↦
          let named = in_resources plan g l in
          let is : ceiling_at plan g c ≡ local_ceiling plan g = ap (λ b. cond b (top plan c) (local_ceiling plan g)) f in
          let k = greatest_above (local_ceiling plan) (λ x. not (is_global plan x) && held x) (resources plan) g named (ap (λ b. not b && held g) f ∙ h) in
          omega (arith, is, k)
    ]

-- the greatest of what a filter keeps is not above what no kept one is above
greatest_from : {X : Type 0} (f : X → ℕ) (p : X → Bool) (n a : ℕ) (xs : List X) → ((x : X) → p x ≡ true → f x ≤ n) → a ≤ n → fold max a (map f (filter p xs)) ≤ n
greatest_from f p n a [] h l = l
greatest_from f p n a (x ∷ xs) h l = elim (cases_Bool (p x)) [
  | inl t ↦ subst (λ b. fold max a (map f (cond b (x ∷ filter p xs) (filter p xs))) ≤ n) (sym t) (greatest_from f p n (max a (f x)) xs h (let k = h x t in omega (arith, k, l)))
  | inr e ↦ subst (λ b. fold max a (map f (cond b (x ∷ filter p xs) (filter p xs))) ≤ n) (sym e) (greatest_from f p n a xs h l)
]

-- what follows from each element that passes follows where some element does
from_any : {X : Type 0} (Q : Type 0) (p : X → Bool) (xs : List X) → ((x : X) → p x ≡ true → Q) → list_any p xs ≡ true → Q
from_any Q p [] f h = absurd (cc)
from_any Q p (x ∷ xs) f h = elim (cases_Bool (p x)) [
  | inl t ↦ f x t
  | inr e ↦ from_any Q p xs f (sym (ap (λ b. b || list_any p xs) e) ∙ h)
]

-- the current ceiling is not above what no held resource's ceiling is above
ceiling_within : (plan : PlanModel) (c n : ℕ) (held : ℕ → Bool) → ((g : ℕ) → held g ≡ true → ceiling_at plan g c ≤ n) → ceiling_with plan c false held ≤ n
ceiling_within plan c n held f =
    let locals : greatest (map (local_ceiling plan) (filter (λ g. not (is_global plan g) && held g) (resources plan))) ≤ n =
    greatest_from (local_ceiling plan) (λ g. not (is_global plan g) && held g) n 0 (resources plan)
    (λ g h. let b = and_parts (not (is_global plan g)) (held g) h in
    let local : is_global plan g ≡ false = not_is (is_global plan g) b.0 in
    let k = f g b.1 in
    let is : ceiling_at plan g c ≡ local_ceiling plan g = ap (λ d. cond d (top plan c) (local_ceiling plan g)) local in
    omega (arith, k, is)) (omega arith) in
    let globals : cond (raised_with plan false held) (top plan c) 0 ≤ n = raised_within (raised_with plan false held) refl in
    omega (arith, locals, globals)
  where
    not_is : (b : Bool) → not b ≡ true → b ≡ false
    not_is true h = absurd (cc)
    not_is false h = refl

    raised_within : (b : Bool) → b ≡ raised_with plan false held → cond b (top plan c) 0 ≤ n
    raised_within false e = omega arith
    raised_within true e =
        from_any (top plan c ≤ n) (λ g. is_global plan g && held g) (resources plan)
        (λ g h. let b = and_parts (is_global plan g) (held g) h in
        let k = f g b.1 in
        let is : ceiling_at plan g c ≡ top plan c = ap (λ d. cond d (top plan c) (local_ceiling plan g)) b.0 in
        omega (arith, k, is)) (sym e)

-- so the ceiling of the layers is the core's current ceiling
pub layers_ceiling : (plan : PlanModel) (c : ℕ) (hs : List Held) (current : ℕ) (held : ℕ → Bool) → Layers plan c current hs → ((g : ℕ) → held g ≡ is_layer hs g) → current ≡ ceiling_with plan c false held
layers_ceiling plan c hs current held l same =
    let a = layers_below plan c (ceiling_with plan c false held) hs current l (λ g e l2. held_below plan c g held l2 (same g ∙ e)) in
    let b = ceiling_within plan c current held (λ g e. layers_above plan c hs current g l (sym (same g) ∙ e)) in
    omega (arith, a, b)
