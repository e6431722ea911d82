-- Two lists with the same entries of each core, in one order, are equal; so books have but one
-- history.
use Rattle.std.proofs.Common.{◌≡◌, ◌≢◌, ◌⊎◌, ◌<◌, ◌≤◌, ◌∷◌, ◌∙◌}
use Rattle.msrp_plan.proofs.Common.{inl, inr, ℕ, true, cond, List, [], refl, ap, sym, subst, arith, eq-eqb, ne_eqb, AllByRecursion, dite, ℕ_discrete, all_weaker}
use Rattle.msrp_board.proofs.Common.{Ask, Call, Entry, Event, IsChain, IsHistory, Leave, Placed, Poll, PollsInOrder, by_core, is_poll, on_resource, place_after}

-- ---- an order by parts

abbrev pub Lex : ℕ → ℕ → Type 0 → Type 0
Lex a b X = (a < b) ⊎ ((a ≡ b) × X)

lex_trans : (a b c : ℕ) (X Y Z : Type 0) → (X → Y → Z) → Lex a b X → Lex b c Y → Lex a c Z
lex_trans a b c X Y Z f (inl h) (inl k) = inl (omega (arith, h, k))
lex_trans a b c X Y Z f (inl h) (inr k) = inl (let e = k.0 in omega (arith, h, e))
lex_trans a b c X Y Z f (inr h) (inl k) = inl (let e = h.0 in omega (arith, k, e))
lex_trans a b c X Y Z f (inr h) (inr k) = inr (h.0 ∙ k.0, f h.1 k.1)

pub lex_both : (a b : ℕ) (X Y : Type 0) → Lex a b X → Lex b a Y → X × Y
lex_both a b X Y (inl h) (inl k) = absurd (omega (arith, h, k))
lex_both a b X Y (inl h) (inr k) = absurd (let e = k.0 in omega (arith, h, e))
lex_both a b X Y (inr h) (inl k) = absurd (let e = h.0 in omega (arith, k, e))
lex_both a b X Y (inr h) (inr k) = (h.1, k.1)

abbrev pub step_of : Call → ℕ
step_of k = cond (is_poll k) 0 1

-- by place, poll before step, tick, core
abbrev pub Before : Event → Event → Type 0
Before x y = Lex x.1.place y.1.place (Lex (step_of x.1.call) (step_of y.1.call) (Lex x.1.tick y.1.tick (x.0 ≤ y.0)))

before_trans : (x y z : Event) → Before x y → Before y z → Before x z
before_trans x y z h k =
    lex_trans x.1.place y.1.place z.1.place _ _ _
    (lex_trans (step_of x.1.call) (step_of y.1.call) (step_of z.1.call) _ _ _
    (lex_trans x.1.tick y.1.tick z.1.tick _ _ _ (λ (a : x.0 ≤ y.0) (b : y.0 ≤ z.0). omega (arith, a, b)))) h k

before_both : (x y : Event) → Before x y → Before y x → x.0 ≡ y.0
before_both x y h k =
    let a = lex_both x.1.place y.1.place _ _ h k in
    let b = lex_both (step_of x.1.call) (step_of y.1.call) _ _ a.0 a.1 in
    let c = lex_both x.1.tick y.1.tick (x.0 ≤ y.0) (y.0 ≤ x.0) b.0 b.1 in
    let l = c.0 in let m = c.1 in omega (arith, l, m)

-- ---- a history stands in that order

adjacent : (c t p : ℕ) (k : Call) (d u q : ℕ) (j : Call) (n : ℕ) → p ≡ n → q ≡ place_after n k → (is_poll k ≡ true → is_poll j ≡ true → (t < u) ⊎ ((t ≡ u) × (c ≤ d))) → Lex p q (Lex (step_of k) (step_of j) (Lex t u (c ≤ d)))
adjacent c t p (Ask a) d u q j n e f h = inl (omega (arith, e, f))
adjacent c t p Leave d u q j n e f h = inl (omega (arith, e, f))
adjacent c t p (Poll b) d u q (Ask a) n e f h = inr (e ∙ sym f, inl (omega arith))
adjacent c t p (Poll b) d u q Leave n e f h = inr (e ∙ sym f, inl (omega arith))
adjacent c t p (Poll b) d u q (Poll v) n e f h = inr (e ∙ sym f, inr (refl, h refl refl))

-- each element stands in R to all behind it
abbrev pub Sorted : (Event → Event → Type 0) → List Event → Type 0
Sorted R [] = Unit {0}
Sorted R (x ∷ xs) = AllByRecursion (R x) xs × Sorted R xs

pub sorted_history : (n : ℕ) (h : List Event) → Placed n h → IsChain PollsInOrder h → Sorted Before h
sorted_history n [] p o = tt
sorted_history n (s ∷ []) p o = (tt, tt)
sorted_history n (s ∷ x ∷ h) p o =
    let rest = sorted_history (place_after n s.1.call) (x ∷ h) p.1 o.1 in
    let near = adjacent s.0 s.1.tick s.1.place s.1.call x.0 x.1.tick x.1.place x.1.call n p.0 p.1.0 o.0 in
    ((near, all_weaker (Before x) (Before s) (λ z k. before_trans s x z near k) h rest.0), rest)

-- ---- there is but one list

by_same : (c d : ℕ) (x : Entry) (xs : List Event) → d ≡ c → by_core c ((d, x) ∷ xs) ≡ x ∷ by_core c xs
by_same c d x xs e = ap (λ b. cond b (x ∷ by_core c xs) (by_core c xs)) (eq-eqb d c e)

by_other : (c d : ℕ) (x : Entry) (xs : List Event) → d ≢ c → by_core c ((d, x) ∷ xs) ≡ by_core c xs
by_other c d x xs n = ap (λ b. cond b (x ∷ by_core c xs) (by_core c xs)) (ne_eqb d c n)

head_is : (x y : Entry) (xs ys : List Entry) → x ∷ xs ≡ y ∷ ys → x ≡ y
head_is x y xs ys e = cc

tail_is : (x y : Entry) (xs ys : List Entry) → x ∷ xs ≡ y ∷ ys → xs ≡ ys
tail_is x y xs ys e = cc

not_nil : (x : Entry) (xs : List Entry) → x ∷ xs ≡ [] → ⊥
not_nil x xs e = cc

-- what holds of all holds of the first under c
first_by : (P : Event → Type 0) (c : ℕ) (x : Entry) (rest : List Entry) (ys : List Event) → AllByRecursion P ys → by_core c ys ≡ x ∷ rest → P (c, x)
first_by P c x rest [] all e = absurd (not_nil x rest (sym e))
first_by P c x rest (y ∷ ys) all e = dite (ℕ_discrete y.0 c)
    (λ q. let h = head_is y.1 x (by_core c ys) rest (sym (by_same c y.0 y.1 ys q) ∙ e) in subst (λ d. P (d, x)) q (subst (λ z. P (y.0, z)) h all.0))
    (λ n. first_by P c x rest ys all.1 (sym (by_other c y.0 y.1 ys n) ∙ e))

unique : (R : Event → Event → Type 0) → ((x y : Event) → R x y → R y x → x.0 ≡ y.0) → (xs ys : List Event) → ((c : ℕ) → by_core c xs ≡ by_core c ys) → Sorted R xs → Sorted R ys → xs ≡ ys
unique R anti [] [] same a b = refl
unique R anti [] (y ∷ ys) same a b = absurd (not_nil y.1 (by_core y.0 ys) (sym (by_same y.0 y.0 y.1 ys refl) ∙ sym (same y.0)))
unique R anti (x ∷ xs) [] same a b = absurd (not_nil x.1 (by_core x.0 xs) (sym (by_same x.0 x.0 x.1 xs refl) ∙ same x.0))
unique R anti (x ∷ xs) (y ∷ ys) same a b = dite (ℕ_discrete y.0 x.0)
    (λ q.
    let both : x.1 ∷ by_core x.0 xs ≡ y.1 ∷ by_core x.0 ys = sym (by_same x.0 x.0 x.1 xs refl) ∙ (same x.0 ∙ by_same x.0 y.0 y.1 ys q) in
    let here : x ≡ y = pair_same x y (sym q) (head_is x.1 y.1 (by_core x.0 xs) (by_core x.0 ys) both) in
    ap (λ z. z ∷ xs) here ∙ ap (λ zs. y ∷ zs) (unique R anti xs ys (rest q (tail_is x.1 y.1 (by_core x.0 xs) (by_core x.0 ys) both)) a.1 b.1))
    (λ n.
    let e = sym (by_same x.0 x.0 x.1 xs refl) ∙ (same x.0 ∙ by_other x.0 y.0 y.1 ys n) in
    let f = sym (by_same y.0 y.0 y.1 ys refl) ∙ (sym (same y.0) ∙ by_other y.0 x.0 x.1 xs (λ q. n (sym q))) in
    absurd (n (anti y x (first_by (R y) x.0 x.1 (by_core x.0 xs) ys b.0 (sym e)) (first_by (R x) y.0 y.1 (by_core y.0 ys) xs a.0 (sym f)))))
  where
    pair_same : (x y : Event) → x.0 ≡ y.0 → x.1 ≡ y.1 → x ≡ y
    pair_same x y e f = ap (λ a. (a, x.1)) e ∙ ap (λ b. (y.0, b)) f

    rest : y.0 ≡ x.0 → by_core x.0 xs ≡ by_core x.0 ys → (c : ℕ) → by_core c xs ≡ by_core c ys
    rest q t c = dite (ℕ_discrete x.0 c)
        (λ e. subst (λ d. by_core d xs ≡ by_core d ys) e t)
        (λ n. sym (by_other c x.0 x.1 xs n) ∙ (same c ∙ by_other c y.0 y.1 ys (λ e. n (sym q ∙ e))))

-- a list in that order with the entries of a history is the history
pub history_is : (g : ℕ) (books : ℕ → List Entry) (h k : List Event) → IsHistory g books h → ((c : ℕ) → by_core c k ≡ on_resource g (books c)) → Sorted Before k → h ≡ k
history_is g books h k a entries order = unique Before before_both h k (λ c. a.entries c ∙ sym (entries c)) (sorted_history 0 h a.placed a.polls) order

pub history_unique : (g : ℕ) (books : ℕ → List Entry) (h k : List Event) → IsHistory g books h → IsHistory g books k → h ≡ k
history_unique g books h k a b = history_is g books h k a b.entries (sorted_history 0 k b.placed b.polls)
