-- The rows of one tick: of cores that differ, and once each core has had its turn the next tick
-- begins.
use Rattle.msrp_plan.specs.Common.{ℕ, Bool, true, false, cond, List, [], length, filter, list_any, AllByRecursion, range_with_len, PlanModel, IsLegal}
use Rattle.msrp_plan.specs.declared.rows.Row.{Row}
use Rattle.std.proofs.Common.{◌≡◌, ◌≢◌, ◌+◌, ◌*◌, ◌/◌, ◌<◌, ◌≤◌, ◌&&◌, ◌||◌, ◌==◌, ◌∷◌, ◌++◌, ◌⊎◌, refl, ap, sym, ◌∙◌, subst, arith, append-nil, length-append, inl, inr, eq-eqb}
use Rattle.std.proofs.Math.Bool.{true≢false}
use Rattle.std.proofs.lemmas.Bool.{cases_lt, eqb-true, or_parts, true_from_ne_false, false_from_ne_true}
use Rattle.std.proofs.lemmas.Nat.{div-mul-add}
use Rattle.std.proofs.lemmas.List.Elements.{filter-append}
use Rattle.std.proofs.lemmas.List.FromFn.{length-range_with_len}
use Rattle.msrp_plan.proofs.Lists.AnyAll.{any_push, all_push}
use Rattle.msrp_plan.proofs.Lists.Apart.{ApartBy, apart_push, fits_length, has, without, has_range, has_without, sum_without, sum_ones}
use Rattle.msrp_plan.proofs.Legality.LegalRows.{legal_due}

-- the rows of tick t
abbrev pub rows_in : ℕ → List Row → List Row
rows_in t pre = filter (λ w. w.tick == t) pre

-- the core has had its turn in it
abbrev pub turned : ℕ → List Row → ℕ → Bool
turned t pre c = list_any (λ w. w.core.0 == c) (rows_in t pre)

-- the core of a row
abbrev pub core_of_row : Row → ℕ
core_of_row w = w.core.0

-- by whether the first row passes the first test
any_and : (p q : Row → Bool) (w : Row) (ws : List Row) (b : Bool) → p w ≡ b → (b && q w) || list_any q (filter p ws) ≡ list_any q (cond b (w ∷ filter p ws) (filter p ws))
any_and p q w ws true e = refl
any_and p q w ws false e = refl

-- some row passes both tests where some row that passes the first passes the second
pub any_both : (p q : Row → Bool) (ws : List Row) → list_any (λ w. p w && q w) ws ≡ list_any q (filter p ws)
any_both p q [] = refl
any_both p q (w ∷ ws) = ap (λ b. (p w && q w) || b) (any_both p q ws) ∙ any_and p q w ws (p w) refl

-- tick t stands: it has had so many turns, of cores that differ, and no later tick has begun
pub record IsTick (plan : PlanModel) (t : ℕ) (pre : List Row) : Type 0 where
  pub count : length pre ≡ t * plan.cores + length (rows_in t pre)
  pub low : length (rows_in t pre) < plan.cores
  pub later : (u : ℕ) → t < u → rows_in u pre ≡ []
  pub apart : ApartBy core_of_row (rows_in t pre)
  pub cores : AllByRecursion (λ w. core_of_row w < plan.cores) (rows_in t pre)

-- the tick is told by the number of rows
pub tick_is : (plan : PlanModel) (t : ℕ) (pre : List Row) → IsTick plan t pre → length pre / plan.cores ≡ t
tick_is plan t pre k = ap (λ n. n / plan.cores) k.count ∙ div-mul-add t plan.cores (length (rows_in t pre)) k.low

-- so the next row is one of it
pub row_tick : (plan : PlanModel) (t : ℕ) (pre : List Row) (r : Row) → IsTick plan t pre → IsLegal plan pre r → r.tick ≡ t
row_tick plan t pre r k h = (legal_due plan pre r h).tick ∙ tick_is plan t pre k

-- of a core that hasn't had its turn
pub not_turned : (plan : PlanModel) (t : ℕ) (pre : List Row) (r : Row) → IsTick plan t pre → IsLegal plan pre r → turned t pre r.core.0 ≡ false
not_turned plan t pre r k h =
    sym (any_both (λ w. w.tick == t) (λ w. w.core.0 == r.core.0) pre) ∙ subst (λ n. list_any (λ w. (w.tick == n) && (w.core.0 == r.core.0)) pre ≡ false) (row_tick plan t pre r k h) (legal_due plan pre r h).once

-- ---- the rows of a tick after one row more
rows_push : (t : ℕ) (pre : List Row) (r : Row) (b : Bool) → (r.tick == t) ≡ b → rows_in t (pre ++ r ∷ []) ≡ rows_in t pre ++ cond b (r ∷ []) []
rows_push t pre r b e = filter-append (λ w. w.tick == t) pre (r ∷ []) ∙ ap (λ c. rows_in t pre ++ cond c (r ∷ []) []) e

-- of the row's own tick
pub rows_same : (t : ℕ) (pre : List Row) (r : Row) → r.tick ≡ t → rows_in t (pre ++ r ∷ []) ≡ rows_in t pre ++ r ∷ []
rows_same t pre r e = rows_push t pre r true (eq-eqb r.tick t e)

-- of a later tick
rows_later : (t u : ℕ) (pre : List Row) (r : Row) → r.tick ≡ t → t < u → rows_in u pre ≡ [] → rows_in u (pre ++ r ∷ []) ≡ []
rows_later t u pre r e l h = rows_push u pre r false (false_from_ne_true (r.tick == u) (λ s. let k = eqb-true r.tick u s in absurd (omega (arith, k, e, l)))) ∙ (append-nil (rows_in u pre) ∙ h)

-- which cores have had their turn
pub turned_push : (t : ℕ) (pre : List Row) (r : Row) (e : ℕ) → r.tick ≡ t → turned t (pre ++ r ∷ []) e ≡ turned t pre e || (r.core.0 == e)
turned_push t pre r e h = ap (list_any (λ w. w.core.0 == e)) (rows_same t pre r h) ∙ any_push (λ w. w.core.0 == e) (rows_in t pre) r

-- a core that has had no turn is none of the rows' cores
none_is : (n : ℕ) (ws : List Row) → list_any (λ w. w.core.0 == n) ws ≡ false → AllByRecursion (λ w. core_of_row w ≢ n) ws
none_is n [] h = tt
none_is n (w ∷ ws) h =
    let both = or_parts (w.core.0 == n) (list_any (λ v. v.core.0 == n) ws) h in
    (λ e. true≢false (sym (eq-eqb w.core.0 n e) ∙ both.0), none_is n ws both.1)

-- ---- m turns of cores that differ are those of all cores
others_in : (m n : ℕ) (ws : List Row) → AllByRecursion (λ w. core_of_row w < m) ws → AllByRecursion (λ w. core_of_row w ≢ n) ws → AllByRecursion (λ w. has (core_of_row w) (without n (range_with_len 0 m)) ≡ true) ws
others_in m n [] a b = tt
others_in m n (w ∷ ws) a b = (has_without n w.core.0 (range_with_len 0 m) (λ e. b.0 (sym e)) (has_range w.core.0 m a.0), others_in m n ws a.1 b.1)

-- so no core is missing
pub full : (m n : ℕ) (ws : List Row) → n < m → m ≤ length ws → ApartBy core_of_row ws → AllByRecursion (λ w. core_of_row w < m) ws → list_any (λ w. w.core.0 == n) ws ≡ true
full m n ws l long apart cores =
    true_from_ne_false (list_any (λ w. w.core.0 == n) ws) (λ e.
    let k = fits_length core_of_row ws (without n (range_with_len 0 m)) apart (others_in m n ws cores (none_is n ws e)) in
    let s = sum_without (λ _. 1) n (range_with_len 0 m) (has_range n m l) in
    let a = sum_ones (range_with_len 0 m) in
    let b = sum_ones (without n (range_with_len 0 m)) in
    let c = length-range_with_len 0 m in
    absurd (omega (arith, k, s, a, b, c, long)))

-- ---- one row more: in the tick, or at its end
next_tick : (t m : ℕ) → (t + 1) * m ≡ t * m + m
next_tick t m = grind arith

-- each core has had its turn in tick t
abbrev pub IsFull : PlanModel → ℕ → List Row → Type 0
IsFull plan t pre = (n : ℕ) → n < plan.cores → turned t pre n ≡ true

-- one row more stands in the tick, or ends it and the next one begins
pub tick_push : (plan : PlanModel) (t : ℕ) (pre : List Row) (r : Row) → IsTick plan t pre → IsLegal plan pre r → IsTick plan t (pre ++ r ∷ []) ⊎ (IsTick plan (t + 1) (pre ++ r ∷ []) × IsFull plan t (pre ++ r ∷ []) × (rows_in (t + 1) (pre ++ r ∷ []) ≡ []))
tick_push plan t pre r k h =
    let e = row_tick plan t pre r k h in
    let s = rows_same t pre r e in
    let mid = pre ++ r ∷ [] in
    let a : ApartBy core_of_row (rows_in t mid) = subst (ApartBy core_of_row) (sym s) (apart_push core_of_row (rows_in t pre) r k.apart (none_is r.core.0 (rows_in t pre) (not_turned plan t pre r k h))) in
    let c : AllByRecursion (λ w. core_of_row w < plan.cores) (rows_in t mid) = subst (AllByRecursion (λ w. core_of_row w < plan.cores)) (sym s) (all_push (λ w. core_of_row w < plan.cores) (rows_in t pre) r k.cores (legal_due plan pre r h).core) in
    let l1 = length-append pre (r ∷ []) in
    let l2 : length (rows_in t mid) ≡ length (rows_in t pre) + 1 = ap length s ∙ length-append (rows_in t pre) (r ∷ []) in
    let count = k.count in
    let low = k.low in
    let n1 : length mid ≡ t * plan.cores + length (rows_in t mid) = omega (arith, l1, l2, count) in
    elim (cases_lt (length (rows_in t mid)) plan.cores) [
      | inl lt ↦ inl (record { count = n1; low = lt; later = λ u l. rows_later t u pre r e l (k.later u l); apart = a; cores = c })
      | inr ge ↦
          let none : rows_in (t + 1) mid ≡ [] = rows_later t (t + 1) pre r e (omega arith) (k.later (t + 1) (omega arith)) in
          let z = ap length none in
          let next = next_tick t plan.cores in
          inr (
            record {
              count = omega (arith, n1, next, z, ge, l2, low);
              low = omega (arith, z, low);
              later = λ u l. rows_later t u pre r e (omega (arith, l)) (k.later u (omega (arith, l)));
              apart = subst (ApartBy core_of_row) (sym none) tt;
              cores = subst (AllByRecursion (λ w. core_of_row w < plan.cores)) (sym none) tt;
            },
            λ n l. full plan.cores n (rows_in t mid) l ge a c,
            none,
          )
    ]

-- before the first row
pub tick_none : (plan : PlanModel) → 0 < plan.cores → IsTick plan 0 []
tick_none plan l = record { count = omega arith; low = l; later = λ u h. refl; apart = tt; cores = tt }

-- in a tick that has not begun no core has had its turn
pub fresh : (t : ℕ) (pre : List Row) (n : ℕ) → rows_in t pre ≡ [] → turned t pre n ≡ false
fresh t pre n e = ap (list_any (λ w. w.core.0 == n)) e

-- ---- some tick stands at each place
abbrev pub AnyTick : PlanModel → List Row → Type 0
AnyTick plan pre = (t : ℕ) × IsTick plan t pre

pub any_tick_push : (plan : PlanModel) (pre : List Row) (r : Row) → AnyTick plan pre → IsLegal plan pre r → AnyTick plan (pre ++ r ∷ [])
any_tick_push plan pre r k h = elim (tick_push plan k.0 pre r k.1 h) [ inl s ↦ (k.0, s) | inr n ↦ (k.0 + 1, n.0) ]
