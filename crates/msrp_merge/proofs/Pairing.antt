-- Lists whose elements belong together: under filters, and where they belong together core by core
-- and both stand in order.
use Rattle.std.proofs.Common.{◌≡◌, ◌≢◌, ◌==◌, ◌&&◌, ◌∷◌, ◌∙◌}
use Rattle.msrp_plan.proofs.Common.{ℕ, Bool, true, false, cond, List, [], refl, ap, sym, subst, inl, inr, eq-eqb, ne_eqb, AllByRecursion, filter, cases_eq}
use Rattle.msrp_merge.proofs.Common.{Paired, Sorted, by_core}

-- ---- filters
module _ {X : Type 0} (p q r : X → Bool) where
  -- by whether the first element passes each test
  filters_by : (x : X) (A B : List X) (a b c : Bool) → p x ≡ a → q x ≡ b → r x ≡ c → filter p A ≡ filter r (filter q B) → filter p (cond (b && c) (x ∷ A) A) ≡ filter r (filter q (cond a (x ∷ B) B))
  filters_by x A B false true true ea eb ec h = ap (λ k. cond k (x ∷ filter p A) (filter p A)) ea ∙ h
  filters_by x A B true true true ea eb ec h =
      ap (λ k. cond k (x ∷ filter p A) (filter p A)) ea
      ∙ (ap (λ l. x ∷ l) h ∙ sym (ap (λ k. filter r (cond k (x ∷ filter q B) (filter q B))) eb ∙ ap (λ k. cond k (x ∷ filter r (filter q B)) (filter r (filter q B))) ec))
  filters_by x A B false b c ea eb ec h = other b c
    where
      other : (b c : Bool) → filter p (cond (b && c) (x ∷ A) A) ≡ filter r (filter q B)
      other true true = ap (λ k. cond k (x ∷ filter p A) (filter p A)) ea ∙ h
      other true false = h
      other false c = h
  filters_by x A B true true false ea eb ec h = h ∙ sym (ap (λ k. filter r (cond k (x ∷ filter q B) (filter q B))) eb ∙ ap (λ k. cond k (x ∷ filter r (filter q B)) (filter r (filter q B))) ec)
  filters_by x A B true false c ea eb ec h = h ∙ sym (ap (λ k. filter r (cond k (x ∷ filter q B) (filter q B))) eb)

  -- the elements that pass three tests, in whatever order they are tested
  pub filters_swap : (xs : List X) → filter p (filter (λ x. q x && r x) xs) ≡ filter r (filter q (filter p xs))
  filters_swap [] = refl
  filters_swap (x ∷ xs) = filters_by x (filter (λ x. q x && r x) xs) (filter p xs) (p x) (q x) (r x) refl refl refl (filters_swap xs)

module _ {X Y : Type 0} (R S : X → Y → Type 0) where
  -- what belongs together in one way does so in another
  pub paired_weaker : ((x : X) (y : Y) → R x y → S x y) → (xs : List X) (ys : List Y) → Paired R xs ys → Paired S xs ys
  paired_weaker f [] [] all = tt
  paired_weaker f [] (y ∷ ys) all = absurd all
  paired_weaker f (x ∷ xs) [] all = absurd all
  paired_weaker f (x ∷ xs) (y ∷ ys) all = (f x y all.0, paired_weaker f xs ys all.1)

  -- by whether the pair is kept
  paired_kept : (x : X) (y : Y) (a b : Bool) (xs : List X) (ys : List Y) → a ≡ b → (b ≡ true → S x y) → Paired S xs ys → Paired S (cond a (x ∷ xs) xs) (cond b (y ∷ ys) ys)
  paired_kept x y true true xs ys e h all = (h refl, all)
  paired_kept x y false false xs ys e h all = all
  paired_kept x y true false xs ys e h all = absurd (cc)
  paired_kept x y false true xs ys e h all = absurd (cc)

  -- tests on which what belongs together agrees
  pub paired_filter : (p : X → Bool) (q : Y → Bool) → ((x : X) (y : Y) → R x y → p x ≡ q y) → ((x : X) (y : Y) → R x y → q y ≡ true → S x y) → (xs : List X) (ys : List Y) → Paired R xs ys → Paired S (filter p xs) (filter q ys)
  paired_filter p q agree keeps [] [] all = tt
  paired_filter p q agree keeps [] (y ∷ ys) all = absurd all
  paired_filter p q agree keeps (x ∷ xs) [] all = absurd all
  paired_filter p q agree keeps (x ∷ xs) (y ∷ ys) all = paired_kept x y (p x) (q y) (filter p xs) (filter q ys) (agree x y all.0) (keeps x y all.0) (paired_filter p q agree keeps xs ys all.1)

-- ---- core by core
abbrev keyed : {X : Type 0} → (X → ℕ) → ℕ → X → Bool
keyed key c x = key x == c

by_same : {Y : Type 0} (c : ℕ) (s : ℕ × Y) (h : List (ℕ × Y)) → s.0 ≡ c → by_core c (s ∷ h) ≡ s.1 ∷ by_core c h
by_same c s h e = ap (λ b. cond b (s.1 ∷ by_core c h) (by_core c h)) (eq-eqb s.0 c e)

by_other : {Y : Type 0} (c : ℕ) (s : ℕ × Y) (h : List (ℕ × Y)) → s.0 ≢ c → by_core c (s ∷ h) ≡ by_core c h
by_other c s h n = ap (λ b. cond b (s.1 ∷ by_core c h) (by_core c h)) (ne_eqb s.0 c n)

kept_same : {X : Type 0} (key : X → ℕ) (c : ℕ) (x : X) (xs : List X) → key x ≡ c → filter (keyed key c) (x ∷ xs) ≡ x ∷ filter (keyed key c) xs
kept_same key c x xs e = ap (λ b. cond b (x ∷ filter (keyed key c) xs) (filter (keyed key c) xs)) (eq-eqb (key x) c e)

kept_other : {X : Type 0} (key : X → ℕ) (c : ℕ) (x : X) (xs : List X) → key x ≢ c → filter (keyed key c) (x ∷ xs) ≡ filter (keyed key c) xs
kept_other key c x xs n = ap (λ b. cond b (x ∷ filter (keyed key c) xs) (filter (keyed key c) xs)) (ne_eqb (key x) c n)

module _ {X Y : Type 0} (key : X → ℕ) (R : X → Y → Type 0) where
  -- they belong together, and under one number
  pub record Match (x : X) (s : ℕ × Y) : Type 0 where
    pub number : key x ≡ s.0
    pub pair : R x s.1

  -- one of the events that belongs to x, and of which P holds, as it does of all
  first_event : (P : ℕ × Y → Type 0) (c : ℕ) (x : X) (xs : List X) (h : List (ℕ × Y)) → AllByRecursion P h → Paired R (x ∷ xs) (by_core c h) → (y : Y) × R x y × P (c, y)
  first_event P c x xs [] all pairs = absurd pairs
  first_event P c x xs (s ∷ h) all pairs = elim (cases_eq s.0 c) [
    | inl e ↦ (s.1, (subst (Paired R (x ∷ xs)) (by_same c s h e) pairs).0, subst (λ d. P (d, s.1)) e all.0)
    | inr n ↦ first_event P c x xs h all.1 (subst (Paired R (x ∷ xs)) (by_other c s h n) pairs)
  ]

  -- and one of the elements that belongs to y
  first_element : (P : X → Type 0) (c : ℕ) (y : Y) (ys : List Y) (xs : List X) → AllByRecursion P xs → Paired R (filter (keyed key c) xs) (y ∷ ys) → (x : X) × (key x ≡ c) × R x y × P x
  first_element P c y ys [] all pairs = absurd pairs
  first_element P c y ys (x ∷ xs) all pairs = elim (cases_eq (key x) c) [
    | inl e ↦ (x, e, (subst (λ l. Paired R l (y ∷ ys)) (kept_same key c x xs e) pairs).0, all.0)
    | inr n ↦ first_element P c y ys xs all.1 (subst (λ l. Paired R l (y ∷ ys)) (kept_other key c x xs n) pairs)
  ]

  module _ (RX : X → X → Type 0) (RY : ℕ × Y → ℕ × Y → Type 0) (one : (x z : X) (s t : ℕ × Y) → Match x s → Match z t → RX x z → RY t s → key x ≡ key z) where
    -- the rest, where the first belong together
    rest_paired : (x : X) (xs : List X) (s : ℕ × Y) (h : List (ℕ × Y)) → s.0 ≡ key x → ((c : ℕ) → Paired R (filter (keyed key c) (x ∷ xs)) (by_core c (s ∷ h))) → (c : ℕ) → Paired R (filter (keyed key c) xs) (by_core c h)
    rest_paired x xs s h e pairs c = elim (cases_eq (key x) c) [
      | inl k ↦ (subst (Paired R (x ∷ filter (keyed key c) xs)) (by_same c s h (e ∙ k)) (subst (λ l. Paired R l (by_core c (s ∷ h))) (kept_same key c x xs k) (pairs c))).1
      | inr n ↦ subst (Paired R (filter (keyed key c) xs)) (by_other c s h (λ k. n (sym e ∙ k))) (subst (λ l. Paired R l (by_core c (s ∷ h))) (kept_other key c x xs n) (pairs c))
    ]

    -- two lists that belong together under each number, and both stand in order, belong together
    pub paired_whole : (xs : List X) (h : List (ℕ × Y)) → ((c : ℕ) → Paired R (filter (keyed key c) xs) (by_core c h)) → Sorted RX xs → Sorted RY h → Paired Match xs h
    paired_whole [] [] pairs a b = tt
    paired_whole [] (s ∷ h) pairs a b = absurd (subst (Paired R []) (by_same s.0 s h refl) (pairs s.0))
    paired_whole (x ∷ xs) [] pairs a b = absurd (subst (λ l. Paired R l []) (kept_same key (key x) x xs refl) (pairs (key x)))
    paired_whole (x ∷ xs) (s ∷ h) pairs a b = elim (cases_eq s.0 (key x)) [
      | inl e ↦
          let both : Paired R (x ∷ filter (keyed key (key x)) xs) (s.1 ∷ by_core (key x) h) = subst (Paired R (x ∷ filter (keyed key (key x)) xs)) (by_same (key x) s h e) (subst (λ l. Paired R l (by_core (key x) (s ∷ h))) (kept_same key (key x) x xs refl) (pairs (key x))) in
          (record { number = sym e; pair = both.0 }, paired_whole xs h (rest_paired x xs s h e pairs) a.1 b.1)
      | inr n ↦
          let mine : Paired R (x ∷ filter (keyed key (key x)) xs) (by_core (key x) h) = subst (Paired R (x ∷ filter (keyed key (key x)) xs)) (by_other (key x) s h n) (subst (λ l. Paired R l (by_core (key x) (s ∷ h))) (kept_same key (key x) x xs refl) (pairs (key x))) in
          let its : Paired R (filter (keyed key s.0) xs) (s.1 ∷ by_core s.0 h) = subst (Paired R (filter (keyed key s.0) xs)) (by_same s.0 s h refl) (subst (λ l. Paired R l (by_core s.0 (s ∷ h))) (kept_other key s.0 x xs (λ k. n (sym k))) (pairs s.0)) in
          let f = first_event (RY s) (key x) x (filter (keyed key (key x)) xs) h b.0 mine in
          let g = first_element (RX x) s.0 s.1 (by_core s.0 h) xs a.0 its in
          absurd (n (sym (one x g.0 (key x, f.0) s (record { number = refl; pair = f.1 }) (record { number = g.1; pair = g.2 }) g.3 f.2 ∙ g.1)))
    ]
