-- Turns of the cores, put together tick by tick, are a legal run.
use Rattle.msrp_plan.specs.Common.{ℕ, Bool, true, false, cond, not, List, [], Option, Some, None, nat_lt, length, filter, range_with_len, AllByRecursion, PlanModel, EachAfter, IsLegal, is_of_core, had_turn, replies_on, is_of, log_of, ascending}
use Rattle.msrp_plan.specs.declared.ids.ResId.{ResId}
use Rattle.msrp_plan.specs.declared.rows.Row.{Row}
use Rattle.std.proofs.Common.{◌≡◌, ◌≢◌, ◌+◌, ◌*◌, ◌/◌, ◌<◌, ◌≤◌, ◌==◌, ◌&&◌, ◌∷◌, ◌++◌, refl, ap, sym, ◌∙◌, arith, length-append, append-nil, eq-eqb}
use Rattle.std.proofs.lemmas.List.Elements.{filter-append, All-from_recursion}
use Rattle.std.proofs.lemmas.List.Folds.{list_any_none}
use Rattle.std.proofs.Math.Bool.{and-false}
use Rattle.std.proofs.lemmas.List.FromFn.{length-range_with_len}
use Rattle.std.proofs.lemmas.Bool.{lt-ltb, eqb-true}
use Rattle.msrp_plan.specs.Logs.{IsNextTurn}
use Rattle.msrp_plan.proofs.Lists.AnyAll.{all_weaker, all_push}
use Rattle.msrp_plan.proofs.Lists.Prefixes.{each_along}
use Rattle.msrp_plan.proofs.Lists.Ranges.{not_equal, once_in_range, flat_length, flat_filter}
use Rattle.msrp_plan.proofs.Legality.Locality.{AreOwn, chosen_local, action_local}

-- ---- the log of a core after one row more
-- a row of the core is the newest of its log
pub log_own : (rows : List Row) (r : Row) (c : ℕ) → r.core.0 ≡ c → log_of c (rows ++ r ∷ []) ≡ log_of c rows ++ r ∷ []
log_own rows r c at = filter-append (is_of c) rows (r ∷ []) ∙ ap (λ b. log_of c rows ++ cond b (r ∷ []) []) (eq-eqb r.core.0 c at)

-- a row of another core leaves it
pub log_other : (rows : List Row) (r : Row) (c : ℕ) → r.core.0 ≢ c → log_of c (rows ++ r ∷ []) ≡ log_of c rows
log_other rows r c ne = filter-append (is_of c) rows (r ∷ []) ∙ (ap (λ b. log_of c rows ++ cond b (r ∷ []) []) (not_equal r.core.0 c ne) ∙ append-nil (log_of c rows))

-- no row makes a log shorter
log_longer : (rows : List Row) (r : Row) (c : ℕ) → length (log_of c rows) ≤ length (log_of c (rows ++ r ∷ []))
log_longer rows r c = let a = ap length (filter-append (is_of c) rows (r ∷ [])) in omega (arith, a, length-append (log_of c rows) (log_of c (r ∷ [])))

-- a row makes its own core's log longer by one
log_one_longer : (rows : List Row) (r : Row) → length (log_of r.core.0 (rows ++ r ∷ [])) ≡ length (log_of r.core.0 rows) + 1
log_one_longer rows r = ap length (log_own rows r r.core.0 refl) ∙ (let a = length-append (log_of r.core.0 rows) (r ∷ []) in a ∙ omega arith)

-- ---- rows of due turns are legal
-- each row's job is of its core, and each row stands in a tick that its core's log has passed
pub record IsFront (plan : PlanModel) (pre : List Row) : Type 0 where
  pub own : AreOwn plan pre
  pub past : AllByRecursion (λ w. w.tick < length (log_of w.core.0 pre)) pre

-- such a row is not in a tick that the log of core c has still to reach, and of core c
past_cases : (pre : List Row) (w : Row) (t c : ℕ) (b : Bool) → (w.core.0 == c) ≡ b → length (log_of c pre) ≡ t → w.tick < length (log_of w.core.0 pre) → ((w.tick == t) && (w.core.0 == c)) ≡ false
past_cases pre w t c true e now h =
    let z = ap (λ n. length (log_of n pre)) (eqb-true w.core.0 c e) in
    ap (λ b. b && (w.core.0 == c)) (not_equal w.tick t (λ k. absurd (omega (arith, h, z, now, k))))
past_cases pre w t c false e now h = ap (λ b. (w.tick == t) && b) e ∙ and-false (w.tick == t)

-- so core c has had no turn in that tick
first_turn : (plan : PlanModel) (pre : List Row) (t c : ℕ) → IsFront plan pre → length (log_of c pre) ≡ t → had_turn c t pre ≡ false
first_turn plan pre t c front now = list_any_none (λ w. (w.tick == t) && (w.core.0 == c)) pre (All-from_recursion (λ w. ((w.tick == t) && (w.core.0 == c)) ≡ false) pre
    (all_weaker (λ w. w.tick < length (log_of w.core.0 pre)) (λ w. ((w.tick == t) && (w.core.0 == c)) ≡ false) (λ w h. past_cases pre w t c (w.core.0 == c) refl now h) pre front.past))

-- the three parts of a due turn
pub in_turn_of : (tick due : ℕ) (low had : Bool) → tick ≡ due → low ≡ true → had ≡ false → ((tick == due) && (low && not had)) ≡ true
in_turn_of tick due low had e l h = ap (λ b. b && (low && not had)) (eq-eqb tick due e) ∙ (ap (λ b. b && not had) l ∙ ap not h)

-- the next row of a due core is legal after all rows
pub due_legal : (plan : PlanModel) (pre : List Row) (r : Row) → IsFront plan pre → IsNextTurn plan pre r → IsLegal plan pre r
due_legal plan pre r front due = record {
  turn = in_turn_of r.tick (length pre / plan.cores) (nat_lt r.core.0 plan.cores) (had_turn r.core.0 r.tick pre) (due.turn.tick ∙ due.due) (lt-ltb r.core.0 plan.cores due.core) (first_turn plan pre r.tick r.core.0 front (sym due.turn.tick));
  own = due.turn.own;
  chosen = chosen_local plan r.core.0 pre r front.own due.turn;
  action = action_local plan r.core.0 pre r front.own due.turn;
  reply = due.reply;
}

-- one row more of a due core
front_push : (plan : PlanModel) (pre : List Row) (r : Row) → IsFront plan pre → IsNextTurn plan pre r → IsFront plan (pre ++ r ∷ [])
front_push plan pre r front due = record {
  own = all_push (λ w. is_of_core plan w ≡ true) pre r front.own due.turn.own;
  past = all_push (λ w. w.tick < length (log_of w.core.0 (pre ++ r ∷ []))) pre r
      (all_weaker (λ w. w.tick < length (log_of w.core.0 pre)) (λ w. w.tick < length (log_of w.core.0 (pre ++ r ∷ []))) (λ w h. omega (arith, h, log_longer pre r w.core.0)) pre front.past)
      (let a = log_one_longer pre r in let b = due.turn.tick in omega (arith, a, b));
}

-- rows of due turns are legal, whatever the order of the cores in a tick
pub due_rows_legal : (plan : PlanModel) (rows : List Row) → EachAfter (IsNextTurn plan) [] rows → EachAfter (IsLegal plan) [] rows
due_rows_legal plan rows all = each_along (IsFront plan) (IsNextTurn plan) (IsLegal plan) (front_push plan) (due_legal plan) [] rows (record { own = tt; past = tt }) all

-- ---- the cores in rising order, tick by tick
-- the order of so many ticks has one place for each core and tick
pub ascending_length : (m t : ℕ) → length (ascending m t) ≡ t * m
ascending_length m t = flat_length (λ k. range_with_len 0 m) m (λ k. length-range_with_len 0 m) (range_with_len 0 t) ∙ ap (λ n. n * m) (length-range_with_len 0 t)

-- each core stands in it once for each tick
pub ascending_count : (m t c : ℕ) → c < m → length (filter (λ k. k == c) (ascending m t)) ≡ t
ascending_count m t c l =
    ap length (flat_filter (λ k. k == c) (λ k. range_with_len 0 m) (range_with_len 0 t))
    ∙ (flat_length (λ k. filter (λ k. k == c) (range_with_len 0 m)) 1 (λ k. once_in_range c 0 m (omega arith) (omega arith)) (range_with_len 0 t)
    ∙ (let n = length-range_with_len 0 t in omega (arith, n)))

-- a row on no resource needs no reply
pub quiet_reply : (pre : List Row) (r : Row) (o : Option ResId) → o ≡ None → replies_on pre o r ≡ true
quiet_reply pre r None h = refl
quiet_reply pre r (Some g) h = absurd (cc)
