-- Orders that are made tick by tick give each core one turn in each tick.
use Rattle.std.proofs.Common.{◌≡◌, ◌≢◌, ◌+◌, ◌-◌, ◌*◌, ◌/◌, ◌%◌, ◌<◌, ◌≤◌, ◌==◌, ◌∷◌, ◌++◌, ◌∙◌}
use Rattle.msrp_plan.proofs.Common.{ℕ, zero, suc, false, cond, nat_lt, List, [], map, refl, ap, sym, subst, arith, length, length-append, append_assoc, append-nil, add-one, mul_comm, get_or, inl, inr, flat_map, range_with_len, cases_lt, cases_Bool, lt-ltb, eqb-false, nat_tests, get_or_append_left, sum_by_push, length-range_with_len, length-map-range_with_len, map-range_with_len_more, get_or-map-range_with_len, mod-eq_of_lt, div-add-mod, mul-le-mul_right, div-mul-add, mod-mul-add, PlanModel, EachAfter, IsDueInOrder, IsOrder, each_push, flat_more}
use Rattle.std.specs.List.{count_by}
use Rattle.std.proofs.lemmas.Bool.{eqb-true}
use Rattle.std.proofs.lemmas.List.{get_or-append-add, map-id}
use Rattle.std.proofs.Math.Nat.{mod-lt, add-mul-mod_self_left, suc-mul, div-mul-le_self}
use Rattle.msrp_plan.specs.Logs.{ascending}
use Rattle.msrp_plan.proofs.Lists.Ranges.{flat_length}
use Rattle.msrp_sim.specs.Orders.{turns_by, falling, rotating}

-- in each tick each of m cores has a place of its own
pub record IsRound (m : ℕ) (core place : ℕ → ℕ → ℕ) : Type 0 where
  pub below : (t i : ℕ) → i < m → core t i < m
  pub back : (t i : ℕ) → i < m → place t (core t i) ≡ i
  pub within : (t c : ℕ) → c < m → place t c < m
  pub forth : (t c : ℕ) → c < m → core t (place t c) ≡ c

-- the turns of t ticks, and i of the next
abbrev pub first_turns : (ℕ → ℕ → ℕ) → ℕ → ℕ → ℕ → List ℕ
first_turns core m t i = flat_map (λ t. map (core t) (range_with_len 0 m)) (range_with_len 0 t) ++ map (core t) (range_with_len 0 i)

-- a place before this one counts
abbrev pub passed : ℕ → ℕ → ℕ
passed p i = cond (nat_lt p i) 1 0

abbrev same : ℕ → ℕ → ℕ
same c d = cond (d == c) 1 0

pub ticks_length : (core : ℕ → ℕ → ℕ) (m t : ℕ) → length (flat_map (λ t. map (core t) (range_with_len 0 m)) (range_with_len 0 t)) ≡ t * m
ticks_length core m t = flat_length (λ t. map (core t) (range_with_len 0 m)) m (λ k. length-map-range_with_len (core k) 0 m) (range_with_len 0 t) ∙ ap (λ n. n * m) (length-range_with_len 0 t)

first_length : (core : ℕ → ℕ → ℕ) (m t i : ℕ) → length (first_turns core m t i) ≡ t * m + i
first_length core m t i =
    let a = length-append (flat_map (λ t. map (core t) (range_with_len 0 m)) (range_with_len 0 t)) (map (core t) (range_with_len 0 i)) in
    let b = ticks_length core m t in
    let d = length-map-range_with_len (core t) 0 i in
    omega (arith, a, b, d)

-- ---- one turn more, and one tick more
turn_more : (core : ℕ → ℕ → ℕ) (m t i : ℕ) → first_turns core m t (i + 1) ≡ first_turns core m t i ++ core t i ∷ []
turn_more core m t i =
    ap (λ l. flat_map (λ t. map (core t) (range_with_len 0 m)) (range_with_len 0 t) ++ l) (map-range_with_len_more (core t) 0 i i (omega arith))
    ∙ sym (append_assoc (flat_map (λ t. map (core t) (range_with_len 0 m)) (range_with_len 0 t)) (map (core t) (range_with_len 0 i)) (core t i ∷ []))

tick_more : (core : ℕ → ℕ → ℕ) (m t : ℕ) → first_turns core m (t + 1) 0 ≡ first_turns core m t m
tick_more core m t = append-nil (flat_map (λ t. map (core t) (range_with_len 0 m)) (range_with_len 0 (t + 1))) ∙ flat_more (λ t. map (core t) (range_with_len 0 m)) t

-- so far each turn was of a core that was due, and each core has had a turn in each full tick, and
-- in this one where it has passed
record IsReached (plan : PlanModel) (core place : ℕ → ℕ → ℕ) (t i : ℕ) : Type 0 where
  each : EachAfter (IsDueInOrder plan) [] (first_turns core plan.cores t i)
  counts : (c : ℕ) → c < plan.cores → count_by (λ d. d == c) (first_turns core plan.cores t i) ≡ t + passed (place t c) i

-- the turn of a place is its core's
count_turn : (m : ℕ) (core place : ℕ → ℕ → ℕ) (t i c : ℕ) → IsRound m core place → i < m → c < m → passed (place t c) i + same c (core t i) ≡ passed (place t c) (i + 1)
count_turn m core place t i c round l lc = elim (cases_Bool (core t i == c)) [
  | inl hit ↦
      let p : place t c ≡ i = ap (place t) (sym (eqb-true (core t i) c hit)) ∙ round.back t i l in
      let a : same c (core t i) ≡ 1 = ap (λ b. cond b 1 0) hit in
      let b : passed (place t c) i ≡ 0 = grind (arith, nat_tests, p) in
      let d : passed (place t c) (i + 1) ≡ 1 = grind (arith, nat_tests, p) in
      omega (arith, a, b, d)
  | inr miss ↦
      let ne : place t c ≢ i = λ e. eqb-false (core t i) c miss (sym (ap (core t) e) ∙ round.forth t c lc) in
      let a : same c (core t i) ≡ 0 = ap (λ b. cond b 1 0) miss in
      let b : passed (place t c) i ≡ passed (place t c) (i + 1) = grind (arith, nat_tests, ne) in
      omega (arith, a, b)
]

-- the next turn is of a core that is due
next_turn : (plan : PlanModel) (core place : ℕ → ℕ → ℕ) (t i : ℕ) → IsRound plan.cores core place → i < plan.cores → IsReached plan core place t i → IsDueInOrder plan (first_turns core plan.cores t i) (core t i)
next_turn plan core place t i round l h = record {
  core = round.below t i l;
  turns =
      let a = h.counts (core t i) (round.below t i l) in
      let p = round.back t i l in
      let b : passed (place t (core t i)) i ≡ 0 = grind (arith, nat_tests, p) in
      let full : length (first_turns core plan.cores t i) / plan.cores ≡ t = ap (λ n. n / plan.cores) (first_length core plan.cores t i) ∙ div-mul-add t plan.cores i l in
      omega (arith, a, b, full);
}

reached_turn : (plan : PlanModel) (core place : ℕ → ℕ → ℕ) (t i : ℕ) → IsRound plan.cores core place → i < plan.cores → IsReached plan core place t i → IsReached plan core place t (i + 1)
reached_turn plan core place t i round l h = record {
  each = subst (EachAfter (IsDueInOrder plan) []) (sym (turn_more core plan.cores t i)) (each_push (IsDueInOrder plan) [] (first_turns core plan.cores t i) (core t i) h.each (next_turn plan core place t i round l h));
  counts = λ c lc.
      let a = ap (count_by (λ d. d == c)) (turn_more core plan.cores t i) in
      let b = sum_by_push (same c) (first_turns core plan.cores t i) (core t i) in
      let d = h.counts c lc in
      let e = count_turn plan.cores core place t i c round l lc in
      omega (arith, a, b, d, e);
}

reached_tick : (plan : PlanModel) (core place : ℕ → ℕ → ℕ) (t : ℕ) → IsRound plan.cores core place → IsReached plan core place t plan.cores → IsReached plan core place (t + 1) 0
reached_tick plan core place t round h = record {
  each = subst (EachAfter (IsDueInOrder plan) []) (sym (tick_more core plan.cores t)) h.each;
  counts = λ c lc.
      let a = ap (count_by (λ d. d == c)) (tick_more core plan.cores t) in
      let b = h.counts c lc in
      let w = round.within t c lc in
      let d : passed (place t c) plan.cores ≡ 1 = ap (λ b. cond b 1 0) (lt-ltb (place t c) plan.cores w) in
      let e : passed (place (t + 1) c) 0 ≡ 0 = grind (arith, nat_tests) in
      omega (arith, a, b, d, e);
}

reached_within : (plan : PlanModel) (core place : ℕ → ℕ → ℕ) (t i : ℕ) → IsRound plan.cores core place → i ≤ plan.cores → IsReached plan core place t 0 → IsReached plan core place t i
reached_within plan core place t zero round l h = h
reached_within plan core place t (suc i) round l h = subst (IsReached plan core place t) (add-one i) (reached_turn plan core place t i round (omega (arith, l)) (reached_within plan core place t i round (omega (arith, l)) h))

reached : (plan : PlanModel) (core place : ℕ → ℕ → ℕ) (t : ℕ) → IsRound plan.cores core place → IsReached plan core place t 0
reached plan core place zero round = record { each = tt; counts = λ c lc. grind (arith, nat_tests) }
reached plan core place (suc t) round = subst (λ s. IsReached plan core place s 0) (add-one t) (reached_tick plan core place t round (reached_within plan core place t plan.cores round (omega arith) (reached plan core place t round)))

-- so the turns are an order
pub order_by : (plan : PlanModel) (core place : ℕ → ℕ → ℕ) → IsRound plan.cores core place → IsOrder plan (turns_by core plan)
order_by plan core place round = record {
  size = ticks_length core plan.cores plan.ticks ∙ mul_comm plan.ticks plan.cores;
  each = subst (EachAfter (IsDueInOrder plan) []) (append-nil (turns_by core plan)) (reached plan core place plan.ticks round).each;
}

-- ---- one turn among all
pub within_ticks : (m t i n : ℕ) → t < n → i < m → t * m + i < n * m
within_ticks m t i n lt li = let l : suc t * m ≤ n * m = mul-le-mul_right m (omega (arith, lt)) in let e = suc-mul t m in omega (arith, l, e, li)

-- turn i of tick t
pub turn_at : (core : ℕ → ℕ → ℕ) (m t i n : ℕ) → t < n → i < m → get_or (flat_map (λ t. map (core t) (range_with_len 0 m)) (range_with_len 0 n)) (t * m + i) 0 ≡ core t i
turn_at core m t i zero lt li = absurd (omega arith)
turn_at core m t i (suc n) lt li =
    let f : ℕ → List ℕ = λ t. map (core t) (range_with_len 0 m) in
    let all = flat_map f (range_with_len 0 n) in
    let len : length all ≡ n * m = ticks_length core m n in
    let more : flat_map f (range_with_len 0 (suc n)) ≡ all ++ f n = ap (λ k. flat_map f (range_with_len 0 k)) (sym (add-one n)) ∙ flat_more f n in
    ap (λ l. get_or l (t * m + i) 0) more ∙ (elim (cases_lt t n) [
      | inl before ↦ get_or_append_left all (f n) 0 (t * m + i) (subst (λ k. t * m + i < k) (sym len) (within_ticks m t i n before li)) ∙ turn_at core m t i n before li
      | inr past ↦
          let e : t ≡ n = omega (arith, lt, past) in
          let at : t * m + i ≡ length all + i = ap (λ k. k * m + i) e ∙ ap (λ k. k + i) (sym len) in
          ap (λ k. get_or (all ++ f n) k 0) at ∙ (get_or-append-add all (f n) i 0 ∙ (get_or-map-range_with_len (core n) 0 m i i 0 li (omega arith) ∙ ap (λ k. core k i) (sym e)))
    ])

-- ---- rising, falling and going round
-- rising order is made so too
pub rising_by : (plan : PlanModel) → ascending plan.cores plan.ticks ≡ turns_by (λ t i. i) plan
rising_by plan = ap (λ r. flat_map (λ t. r) (range_with_len 0 plan.ticks)) (sym (map-id (range_with_len 0 plan.cores)))

falling_round : (m : ℕ) → IsRound m (λ t i. m - (i + 1)) (λ t c. m - (c + 1))
falling_round m = record {
  below = λ t i l. omega (arith, l);
  back = λ t i l. omega (arith, l);
  within = λ t c l. omega (arith, l);
  forth = λ t c l. omega (arith, l);
}

pub falling_order : (plan : PlanModel) → IsOrder plan (falling plan)
falling_order plan = order_by plan (λ t i. plan.cores - (i + 1)) (λ t c. plan.cores - (c + 1)) (falling_round plan.cores)

-- a number below twice m, by m
wrapped : (m a : ℕ) → a < m + m → a % m ≡ cond (nat_lt a m) a (a - m)
wrapped m a l = elim (cases_lt a m) [
  | inl low ↦ mod-eq_of_lt low ∙ sym (ap (λ b. cond b a (a - m)) (lt-ltb a m low))
  | inr high ↦
      let e : a ≡ 1 * m + (a - m) = omega (arith, high) in
      let off : nat_lt a m ≡ false = grind (arith, nat_tests, high) in
      ap (λ n. n % m) e ∙ (mod-mul-add 1 m (a - m) (omega (arith, high, l)) ∙ sym (ap (λ b. cond b a (a - m)) off))
]

-- the tick counts by its rest alone
rest_alone : (m t i : ℕ) → (t + i) % m ≡ (t % m + i) % m
rest_alone m t i =
    let e : t + i ≡ (t % m + i) + m * (t / m) = let d = div-add-mod t m in omega (arith, d) in
    ap (λ n. n % m) e ∙ add-mul-mod_self_left (t % m + i) m (t / m)

-- where a tick begins with core r: the core of a place, and the place of a core
there : (m r i : ℕ) → r < m → i < m → (m - r + (r + i) % m) % m ≡ i
there m r i lr li =
    let a = wrapped m (r + i) (omega (arith, lr, li)) in
    elim (cases_lt (r + i) m) [
      | inl low ↦
          let b : (r + i) % m ≡ r + i = mod-eq_of_lt low in
          let e : m - r + (r + i) % m ≡ 1 * m + i = omega (arith, b, lr) in
          ap (λ n. n % m) e ∙ mod-mul-add 1 m i li
      | inr high ↦
          let x : r + i ≡ 1 * m + (r + i - m) = omega (arith, high) in
          let b : (r + i) % m ≡ r + i - m = ap (λ n. n % m) x ∙ mod-mul-add 1 m (r + i - m) (omega (arith, high, lr, li)) in
          let e : m - r + (r + i) % m ≡ i = omega (arith, b, lr, high) in
          ap (λ n. n % m) e ∙ mod-eq_of_lt li
    ]

again : (m r c : ℕ) → r < m → c < m → (r + (m - r + c) % m) % m ≡ c
again m r c lr lc = elim (cases_lt (m - r + c) m) [
  | inl low ↦
      let b : (m - r + c) % m ≡ m - r + c = mod-eq_of_lt low in
      let e : r + (m - r + c) % m ≡ 1 * m + c = omega (arith, b, lr) in
      ap (λ n. n % m) e ∙ mod-mul-add 1 m c lc
  | inr high ↦
      let x : m - r + c ≡ 1 * m + (c - r) = omega (arith, high, lr) in
      let b : (m - r + c) % m ≡ c - r = ap (λ n. n % m) x ∙ mod-mul-add 1 m (c - r) (omega (arith, lc)) in
      let e : r + (m - r + c) % m ≡ c = omega (arith, b, lr, high) in
      ap (λ n. n % m) e ∙ mod-eq_of_lt lc
]

rotating_round : (m : ℕ) → 0 < m → IsRound m (λ t i. (t + i) % m) (λ t c. (m - t % m + c) % m)
rotating_round m some = record {
  below = λ t i l. mod-lt (t + i) some;
  back = λ t i l. ap (λ n. (m - t % m + n) % m) (rest_alone m t i) ∙ there m (t % m) i (mod-lt t some) l;
  within = λ t c l. mod-lt (m - t % m + c) some;
  forth = λ t c l. rest_alone m t ((m - t % m + c) % m) ∙ again m (t % m) c (mod-lt t some) l;
}

-- a plan without cores has no turn
no_turns : (ticks : List ℕ) → flat_map (λ (t : ℕ). map (λ i. (t + i) % 0) (range_with_len 0 0)) ticks ≡ []
no_turns [] = refl
no_turns (t ∷ ticks) = no_turns ticks

pub rotating_order : (plan : PlanModel) → IsOrder plan (rotating plan)
rotating_order plan = elim (cases_lt 0 plan.cores) [
  | inl some ↦ order_by plan (λ t i. (t + i) % plan.cores) (λ t c. (plan.cores - t % plan.cores + c) % plan.cores) (rotating_round plan.cores some)
  | inr none ↦
      let z : plan.cores ≡ 0 = omega (arith, none) in
      let e : rotating plan ≡ [] = ap (λ m. flat_map (λ t. map (λ i. (t + i) % m) (range_with_len 0 m)) (range_with_len 0 plan.ticks)) z ∙ no_turns (range_with_len 0 plan.ticks) in
      record {
        size = ap length e ∙ sym (ap (λ m. m * plan.ticks) z ∙ omega arith);
        each = subst (EachAfter (IsDueInOrder plan) []) (sym e) tt;
      }
]

-- ---- the turn of a number
pub before_last : (m n turn : ℕ) → turn < m * n → turn / m < n
before_last m n turn l = elim (cases_lt (turn / m) n) [
  | inl low ↦ low
  | inr high ↦ absurd (let a : n * m ≤ turn / m * m = mul-le-mul_right m high in let b = div-mul-le_self turn m in let c = mul_comm m n in omega (arith, a, b, c, l))
]

-- which core has the turn of place i in tick t
pub turn_in : (core : ℕ → ℕ → ℕ) (plan : PlanModel) (t i : ℕ) → i < plan.cores → t < plan.ticks → core t i ≡ get_or (turns_by core plan) (t * plan.cores + i) 0
turn_in core plan t i place tick = sym (turn_at core plan.cores t i plan.ticks tick place)

-- its tick is one of the n
pub tick_within : (m n t i : ℕ) → i < m → t * m + i < m * n → t < n
tick_within m n t i place l = subst (λ k. k < n) (div-mul-add t m i place) (before_last m n (t * m + i) l)
