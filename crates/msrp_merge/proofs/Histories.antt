-- The turns on a resource, in the order of the merged list, are the history of the resource.
use Rattle.std.proofs.Common.{◌≡◌, ◌==◌, ◌<◌, ◌≤◌, ◌∷◌, ◌∙◌, ◌⊎◌}
use Rattle.msrp_plan.proofs.Common.{ℕ, Bool, true, false, cond, not, List, [], Option, Some, refl, ap, sym, subst, arith, inl, inr, AllByRecursion, filter, is_lt, nat_cmp, ordering_then, Less, Equal, Greater, is_on, all_weaker, all_both}
use Rattle.msrp_merge.proofs.Common.{Before, Entry, Event, InOrder, IsChain, IsHistory, IsNotLater, IsTurnOf, IsTurnOfEvent, Lex, Ordering, Paired, Place, ResId, Sorted, Turn, bool_cmp, eqb-true, has_place, is_by, is_poll, is_step_on, nat_cmp_total, nat_equal, on_resource, option_map, rank_cmp, ranked, sorted_history, step_of, step_rank, then_equal, tied_itself}
use Rattle.std.proofs.lemmas.Map.Keys.{ge_from_not_lt}
use Rattle.msrp_board.proofs.Unique.{Sorted as SortedEvents}
use Rattle.msrp_merge.proofs.Insertion.{sorted_filter}
use Rattle.msrp_merge.proofs.Pairing.{filters_swap, paired_filter, paired_weaker, Match, paired_whole}

-- ---- events stand by tick, and as their places say
abbrev StandsBefore : Event → Event → Type 0
StandsBefore t s = (t.1.tick ≤ s.1.tick) × Before t s

-- ticks never fall, so no event is later than one behind it
none_earlier : (x : Event) (h : List Event) → IsChain IsNotLater (x ∷ h) → AllByRecursion (IsNotLater x) h
none_earlier x [] c = tt
none_earlier x (y ∷ h) c = let l = c.0 in (l, all_weaker (IsNotLater y) (IsNotLater x) (λ z k. omega (arith, l, k)) h (none_earlier y h c.1))

rest_of : (x : Event) (h : List Event) → IsChain IsNotLater (x ∷ h) → IsChain IsNotLater h
rest_of x h c = c.1

events_by : (h : List Event) → SortedEvents Before h → IsChain IsNotLater h → Sorted StandsBefore h
events_by [] s c = tt
events_by (x ∷ h) s c = (all_both (IsNotLater x) (Before x) (StandsBefore x) (λ z l b. (l, b)) h (none_earlier x h c) s.0, events_by h s.1 (rest_of x h c))

-- ---- comparisons in turn
then_not_less : (o p : Ordering) → is_lt (ordering_then o p) ≡ false → (o ≡ Greater) ⊎ ((o ≡ Equal) × (is_lt p ≡ false))
then_not_less Less p h = absurd (cc)
then_not_less Equal p h = inr (refl, h)
then_not_less Greater p h = inl refl

then_greater : (o p : Ordering) → ordering_then o p ≡ Greater → (o ≡ Greater) ⊎ ((o ≡ Equal) × (p ≡ Greater))
then_greater Less p h = absurd (cc)
then_greater Equal p h = inr (refl, h)
then_greater Greater p h = inl refl

nat_greater : (x y : ℕ) → nat_cmp x y ≡ Greater → y < x
nat_greater x y e = let k = ranked x y Greater (sym e) in k

nat_itself : (x y : ℕ) → x ≡ y → nat_cmp x y ≡ Equal
nat_itself x y e = ap (nat_cmp x) (sym e) ∙ tied_itself nat_cmp_total x

-- ---- two steps by place, a poll before the step of its place
steps_greater : (b d : Bool) (X : Type 0) → bool_cmp (not d) (not b) ≡ Greater → Lex (cond d 0 1) (cond b 0 1) X → ⊥
steps_greater true true X e l = cc
steps_greater true false X e (inl h) = omega (arith, h)
steps_greater true false X e (inr h) = let k = h.0 in omega (arith, k)
steps_greater false true X e l = cc
steps_greater false false X e l = cc

steps_equal : (b d : Bool) (X : Type 0) → bool_cmp (not d) (not b) ≡ Equal → Lex (cond d 0 1) (cond b 0 1) X → X
steps_equal true true X e (inl h) = absurd (omega (arith, h))
steps_equal true true X e (inr h) = h.1
steps_equal true false X e l = absurd (cc)
steps_equal false true X e l = absurd (cc)
steps_equal false false X e (inl h) = absurd (omega (arith, h))
steps_equal false false X e (inr h) = h.1

places_greater : (n m : ℕ) (b d : Bool) (X : Type 0) → ordering_then (nat_cmp m n) (bool_cmp (not d) (not b)) ≡ Greater → Lex m n (Lex (cond d 0 1) (cond b 0 1) X) → ⊥
places_greater n m b d X e l = elim (then_greater (nat_cmp m n) (bool_cmp (not d) (not b)) e) [
  | inl g ↦ low (nat_greater m n g) l
  | inr g ↦ same (nat_equal m n g.0) g.1 l
]
  where
    low : n < m → Lex m n (Lex (cond d 0 1) (cond b 0 1) X) → ⊥
    low g (inl h) = omega (arith, g, h)
    low g (inr h) = let k = h.0 in omega (arith, g, k)

    same : m ≡ n → bool_cmp (not d) (not b) ≡ Greater → Lex m n (Lex (cond d 0 1) (cond b 0 1) X) → ⊥
    same q g (inl h) = omega (arith, q, h)
    same q g (inr h) = steps_greater b d X g h.1

places_equal : (n m : ℕ) (b d : Bool) (X : Type 0) → ordering_then (nat_cmp m n) (bool_cmp (not d) (not b)) ≡ Equal → Lex m n (Lex (cond d 0 1) (cond b 0 1) X) → X
places_equal n m b d X e l = let g = then_equal (nat_cmp m n) (bool_cmp (not d) (not b)) e in same (nat_equal m n g.0) g.1 l
  where
    same : m ≡ n → bool_cmp (not d) (not b) ≡ Equal → Lex m n (Lex (cond d 0 1) (cond b 0 1) X) → X
    same q g (inl h) = absurd (omega (arith, q, h))
    same q g (inr h) = steps_equal b d X g h.1

cores_meet : (t u c e : ℕ) → u ≡ t → is_lt (nat_cmp e c) ≡ false → Lex u t (e ≤ c) → c ≡ e
cores_meet t u c e q h (inl l) = absurd (omega (arith, q, l))
cores_meet t u c e q h (inr l) = let low = l.1 in let high = ge_from_not_lt e c h in omega (arith, low, high)

-- the second of two turns in order, in tick u, at place m, of core e, stands before the first in
-- the history: so they are of one core
values_meet : (t u f g n m c e : ℕ) (b d : Bool) → f ≡ g
    → is_lt (ordering_then (nat_cmp u t) (ordering_then (ordering_then (nat_cmp g f) (ordering_then (nat_cmp m n) (bool_cmp (not d) (not b)))) (nat_cmp e c))) ≡ false → u ≤ t → Lex m n (Lex (cond d 0 1) (cond b 0 1) (Lex u t (e ≤ c))) → c ≡ e
values_meet t u f g n m c e b d same h early l = elim (then_not_less (nat_cmp u t) _ h) [
  | inl k ↦ absurd (let w = nat_greater u t k in omega (arith, w, early))
  | inr k ↦ by_rank (nat_equal u t k.0) (then_not_less (ordering_then (nat_cmp g f) (ordering_then (nat_cmp m n) (bool_cmp (not d) (not b)))) (nat_cmp e c) k.1)
]
  where
    step : Ordering
    step = ordering_then (nat_cmp m n) (bool_cmp (not d) (not b))

    by_place : (o : Ordering) → ordering_then (nat_cmp g f) step ≡ o → step ≡ o
    by_place o k = sym (ap (λ p. ordering_then p step) (nat_itself g f (sym same))) ∙ k

    by_rank : u ≡ t → (ordering_then (nat_cmp g f) step ≡ Greater) ⊎ ((ordering_then (nat_cmp g f) step ≡ Equal) × (is_lt (nat_cmp e c) ≡ false)) → c ≡ e
    by_rank q (inl k) = absurd (places_greater n m b d (Lex u t (e ≤ c)) (by_place Greater k) l)
    by_rank q (inr k) = cores_meet t u c e q k.1 (places_equal n m b d (Lex u t (e ≤ c)) (by_place Equal k.0) l)

-- ---- turns and events of one resource
record IsTurnOn (g : ℕ) (x : Turn) (e : Entry) : Type 0 where
  step : IsTurnOf x e
  on : e.res.0 ≡ g

abbrev core_of : Turn → ℕ
core_of x = x.row.core.0

abbrev place_of : Entry → Place
place_of e = record { number = e.place; polled = is_poll e.call }

-- of one core are two turns in order whose events stand the other way round
one_core : (g : ℕ) (x z : Turn) (s t : Event) → Match core_of (IsTurnOn g) x s → Match core_of (IsTurnOn g) z t → InOrder x z → StandsBefore t s → core_of x ≡ core_of z
one_core g x z s t a b order stands =
    let p = a.pair.step in
    let q = b.pair.step in
    let Goes : Option Place → Option Place → Option ResId → Option ResId → ℕ → ℕ → Type 0 = λ v w i j m n. is_lt (ordering_then (nat_cmp n m) (rank_cmp (record { step = option_map (step_rank j) w; core = core_of z }) (record { step = option_map (step_rank i) v; core = core_of x }))) ≡ false in
    let o1 : Goes (Some (place_of s.1)) z.place x.row.res z.row.res x.row.tick z.row.tick = subst (λ v. Goes v z.place x.row.res z.row.res x.row.tick z.row.tick) p.place order in
    let o2 : Goes (Some (place_of s.1)) (Some (place_of t.1)) x.row.res z.row.res x.row.tick z.row.tick = subst (λ w. Goes (Some (place_of s.1)) w x.row.res z.row.res x.row.tick z.row.tick) q.place o1 in
    let o3 : Goes (Some (place_of s.1)) (Some (place_of t.1)) (Some s.1.res) z.row.res x.row.tick z.row.tick = subst (λ i. Goes (Some (place_of s.1)) (Some (place_of t.1)) i z.row.res x.row.tick z.row.tick) p.row.resource o2 in
    let o4 : Goes (Some (place_of s.1)) (Some (place_of t.1)) (Some s.1.res) (Some t.1.res) x.row.tick z.row.tick = subst (λ j. Goes (Some (place_of s.1)) (Some (place_of t.1)) (Some s.1.res) j x.row.tick z.row.tick) q.row.resource o3 in
    let o5 : Goes (Some (place_of s.1)) (Some (place_of t.1)) (Some s.1.res) (Some t.1.res) s.1.tick z.row.tick = subst (λ m. Goes (Some (place_of s.1)) (Some (place_of t.1)) (Some s.1.res) (Some t.1.res) m z.row.tick) p.row.tick o4 in
    let o6 : Goes (Some (place_of s.1)) (Some (place_of t.1)) (Some s.1.res) (Some t.1.res) s.1.tick t.1.tick = subst (λ n. Goes (Some (place_of s.1)) (Some (place_of t.1)) (Some s.1.res) (Some t.1.res) s.1.tick n) q.row.tick o5 in
    let later : Lex t.1.place s.1.place (Lex (step_of t.1.call) (step_of s.1.call) (Lex t.1.tick s.1.tick (core_of z ≤ core_of x))) =
    subst (λ c. Lex t.1.place s.1.place (Lex (step_of t.1.call) (step_of s.1.call) (Lex t.1.tick s.1.tick (c ≤ core_of x)))) (sym b.number) (subst (λ c. Lex t.1.place s.1.place (Lex (step_of t.1.call) (step_of s.1.call) (Lex t.1.tick s.1.tick (t.0 ≤ c)))) (sym a.number) stands.1) in
    values_meet s.1.tick t.1.tick s.1.res.0 t.1.res.0 s.1.place t.1.place (core_of x) (core_of z) (is_poll s.1.call) (is_poll t.1.call) (a.pair.on ∙ sym b.pair.on) o6 stands.0 later

-- what a core did on g, by its turns and by its book
own_steps : (g c : ℕ) (turns : List Turn) (entries : List Entry) → Paired IsTurnOf (filter has_place (filter (is_by c) turns)) entries → Paired (IsTurnOn g) (filter (is_by c) (filter (is_step_on g) turns)) (on_resource g entries)
own_steps g c turns entries fits =
    subst (λ l. Paired (IsTurnOn g) l (on_resource g entries)) (sym (filters_swap (is_by c) has_place (λ x. is_on g x.row.res) turns))
    (paired_filter IsTurnOf (IsTurnOn g) (λ x. is_on g x.row.res) (λ e. e.res.0 == g) (λ x e h. ap (is_on g) h.row.resource) (λ x e h o. record { step = h; on = eqb-true e.res.0 g o }) (filter has_place (filter (is_by c) turns)) entries fits)

-- the turns on g are its history
pub turns_are_history : (g : ℕ) (books : ℕ → List Entry) (h : List Event) (turns : List Turn) → IsHistory g books h → IsChain IsNotLater h → Sorted InOrder turns
    → ((c : ℕ) → Paired IsTurnOf (filter has_place (filter (is_by c) turns)) (books c)) → Paired IsTurnOfEvent (filter (is_step_on g) turns) h
turns_are_history g books h turns hist rising sorted fits =
    paired_weaker (Match core_of (IsTurnOn g)) IsTurnOfEvent (λ x s m. record { core = m.number; step = m.pair.step }) (filter (is_step_on g) turns) h
    (paired_whole core_of (IsTurnOn g) InOrder StandsBefore (one_core g) (filter (is_step_on g) turns) h
    (λ c. subst (Paired (IsTurnOn g) (filter (is_by c) (filter (is_step_on g) turns))) (sym (hist.entries c)) (own_steps g c turns (books c) (fits c)))
    (sorted_filter InOrder (is_step_on g) turns sorted)
    (events_by h (sorted_history 0 h hist.placed hist.polls) rising))
