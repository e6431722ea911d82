-- A legal run seen from one core: its rows by themselves are a run of the core, a row for each
-- tick.
use Rattle.msrp_plan.specs.Common.{ℕ, Bool, true, false, cond, List, [], length, list_any, PlanModel, EachAfter, IsLegal, IsRun, IsRunStart, IsCoreTurn, CoreRun, had_turn, is_of_core, same_choice, log_of}
use Rattle.msrp_plan.specs.declared.rows.Row.{Row}
use Rattle.std.proofs.Common.{◌≡◌, ◌≢◌, ◌+◌, ◌*◌, ◌/◌, ◌<◌, ◌||◌, ◌==◌, ◌∷◌, ◌++◌, refl, ap, sym, ◌∙◌, subst, arith, append-nil, append_assoc, eq-eqb, eqb-true, length-append, mul_comm, inl, inr}
use Rattle.std.proofs.Math.Bool.{or-false, or-true, true≢false}
use Rattle.std.proofs.lemmas.Nat.{div-mul-add}
use Rattle.msrp_plan.proofs.Lists.AnyAll.{all_push}
use Rattle.msrp_plan.proofs.Legality.Locality.{AreOwn, choice_local, does_next_local}
use Rattle.msrp_plan.proofs.Legality.LegalRows.{legal_due}
use Rattle.msrp_plan.proofs.Runs.RoundRobin.{log_own, log_other}
use Rattle.msrp_plan.proofs.Runs.Ticks.{IsTick, any_both, rows_in, tick_push, tick_none, tick_is, row_tick, not_turned, turned, turned_push}

-- a test as a number
abbrev one_if : Bool → ℕ
one_if b = cond b 1 0

-- in tick t the core has had one turn in each tick before, and one more if it has had its turn in
-- this one
abbrev HasTurns : ℕ → ℕ → List Row → Type 0
HasTurns c t pre = length (log_of c pre) ≡ t + one_if (turned t pre c)

-- a legal row is the next one of its core's log
next_of_log : (plan : PlanModel) (t : ℕ) (pre : List Row) (r : Row) → IsTick plan t pre → HasTurns r.core.0 t pre → AreOwn plan pre → IsLegal plan pre r → IsCoreTurn plan r.core.0 (log_of r.core.0 pre) r
next_of_log plan t pre r k has own h = record {
  tick = let e = row_tick plan t pre r k h in let n = has ∙ ap (λ b. t + one_if b) (not_turned plan t pre r k h) in omega (arith, e, n);
  core = refl;
  own = h.own;
  chosen = ap (same_choice r.job) (choice_local plan r.core.0 r.tick pre own) ∙ h.chosen;
  action = does_next_local plan r.core.0 pre r.job r own h.own ∙ h.action;
}

-- ---- one row more
-- by whether the row is of the core
turns_cases : (c t : ℕ) (pre : List Row) (r : Row) (mine : Bool) → (r.core.0 == c) ≡ mine → (r.core.0 ≡ c → turned t pre c ≡ false) → r.tick ≡ t → HasTurns c t pre → HasTurns c t (pre ++ r ∷ [])
turns_cases c t pre r true e first tick has =
    let at : r.core.0 ≡ c = eqb-true r.core.0 c e in
    let a = ap length (log_own pre r c at) ∙ length-append (log_of c pre) (r ∷ []) in
    let b = has ∙ ap (λ v. t + one_if v) (first at) in
    let d = ap one_if (turned_push t pre r c tick ∙ (ap (λ v. turned t pre c || v) e ∙ or-true (turned t pre c))) in
    omega (arith, a, b, d)
turns_cases c t pre r false e first tick has =
    let ne : r.core.0 ≢ c = λ k. true≢false (sym (eq-eqb r.core.0 c k) ∙ e) in
    let a = ap length (log_other pre r c ne) in
    let d = ap one_if (turned_push t pre r c tick ∙ (ap (λ v. turned t pre c || v) e ∙ or-false (turned t pre c))) in
    omega (arith, a, has, d)

-- the core's turns, in the same tick or at the beginning of the next one
turns_push : (plan : PlanModel) (c t : ℕ) (pre : List Row) (r : Row) → IsTick plan t pre → HasTurns c t pre → IsLegal plan pre r → HasTurns c t (pre ++ r ∷ [])
turns_push plan c t pre r k has h = turns_cases c t pre r (r.core.0 == c) refl (λ e. subst (λ n. turned t pre n ≡ false) e (not_turned plan t pre r k h)) (row_tick plan t pre r k h) has

-- where the core stands: the tick, and how many turns it has had
record Stands (plan : PlanModel) (c t : ℕ) (pre : List Row) : Type 0 where
  tick : IsTick plan t pre
  turns : HasTurns c t pre
  own : AreOwn plan pre

-- where it stands after one legal row more
stands_push : (plan : PlanModel) (c t : ℕ) (pre : List Row) (r : Row) → c < plan.cores → Stands plan c t pre → IsLegal plan pre r → (u : ℕ) × Stands plan c u (pre ++ r ∷ [])
stands_push plan c t pre r l s h =
    let mine = all_push (λ w. is_of_core plan w ≡ true) pre r s.own h.own in
    let more : HasTurns c t (pre ++ r ∷ []) = turns_push plan c t pre r s.tick s.turns h in
    elim (tick_push plan t pre r s.tick h) [
      | inl same ↦ (t, record { tick = same; turns = more; own = mine })
      | inr next ↦ (
        t + 1,
        record {
          tick = next.0;
          turns =
              let a = more ∙ ap (λ b. t + one_if b) (next.1 c l) in
              let b = ap one_if (ap (list_any (λ w. w.core.0 == c)) next.2) in
              omega (arith, a, b);
          own = mine;
        },
      )
    ]

-- a row of the core is the next of its log, and a row of another isn't in it
log_cases : (plan : PlanModel) (c : ℕ) (pre rows : List Row) (r : Row) (mine : Bool) → (r.core.0 == c) ≡ mine → (r.core.0 ≡ c → IsCoreTurn plan c (log_of c pre) r)
    → EachAfter (IsCoreTurn plan c) (log_of c (pre ++ r ∷ [])) (log_of c rows) → EachAfter (IsCoreTurn plan c) (log_of c pre) (cond mine (r ∷ log_of c rows) (log_of c rows))
log_cases plan c pre rows r true e turn rest =
    let at : r.core.0 ≡ c = eqb-true r.core.0 c e in
    (turn at, subst (λ l. EachAfter (IsCoreTurn plan c) l (log_of c rows)) (log_own pre r c at) rest)
log_cases plan c pre rows r false e turn rest = subst (λ l. EachAfter (IsCoreTurn plan c) l (log_of c rows)) (log_other pre r c (λ k. true≢false (sym (eq-eqb r.core.0 c k) ∙ e))) rest

-- the turns of a core, over the rows of its log
core_turns : (plan : PlanModel) (c t : ℕ) (pre rows : List Row) → c < plan.cores → Stands plan c t pre → EachAfter (IsLegal plan) pre rows → EachAfter (IsCoreTurn plan c) (log_of c pre) (log_of c rows)
core_turns plan c t pre [] l s each = tt
core_turns plan c t pre (r ∷ rows) l s each =
    let next = stands_push plan c t pre r l s each.0 in
    log_cases plan c pre rows r (r.core.0 == c) refl
    (λ e. subst (λ n. IsCoreTurn plan n (log_of n pre) r) e (next_of_log plan t pre r s.tick (subst (λ n. HasTurns n t pre) (sym e) s.turns) s.own each.0))
    (core_turns plan c next.0 (pre ++ r ∷ []) rows l next.1 each.1)

-- and where it stands after them
stands_after : (plan : PlanModel) (c t : ℕ) (pre rows : List Row) → c < plan.cores → Stands plan c t pre → EachAfter (IsLegal plan) pre rows → (u : ℕ) × Stands plan c u (pre ++ rows)
stands_after plan c t pre [] l s each = (t, subst (Stands plan c t) (sym (append-nil pre)) s)
stands_after plan c t pre (r ∷ rows) l s each =
    let next = stands_push plan c t pre r l s each.0 in
    let end = stands_after plan c next.0 (pre ++ r ∷ []) rows l next.1 each.1 in
    (end.0, subst (Stands plan c end.0) (append_assoc pre (r ∷ []) rows) end.1)

-- where it stands before the first row
stands_none : (plan : PlanModel) (c : ℕ) → c < plan.cores → Stands plan c 0 []
stands_none plan c l = record { tick = tick_none plan (omega (arith, l)); turns = refl; own = tt }

-- in the start of a legal run the rows of a core are a run of the core
pub core_run : (plan : PlanModel) (rows : List Row) (c : ℕ) → IsRunStart plan rows → c < plan.cores → CoreRun plan c (log_of c rows)
core_run plan rows c h l = core_turns plan c 0 [] rows l (stands_none plan c l) h.each

-- a legal row stands in the tick that the log of its core has reached
pub reached_tick : (plan : PlanModel) (pre : List Row) (r : Row) → EachAfter (IsLegal plan) [] pre → IsLegal plan pre r → r.tick ≡ length (log_of r.core.0 pre)
reached_tick plan pre r all h =
    let l = (legal_due plan pre r h).core in
    let s = stands_after plan r.core.0 0 [] pre l (stands_none plan r.core.0 l) all in
    (next_of_log plan s.0 pre r s.1.tick s.1.turns s.1.own h).tick

-- by whether the core has had its turn
due_cases : (c t : ℕ) (pre : List Row) (b : Bool) → turned t pre c ≡ b → HasTurns c t pre → length (log_of c pre) ≡ t → had_turn c t pre ≡ false
due_cases c t pre true e has h = let n = has ∙ ap (λ v. t + one_if v) e in absurd (omega (arith, n, h))
due_cases c t pre false e has h = any_both (λ w. w.tick == t) (λ w. w.core.0 == c) pre ∙ e

-- a core whose log is as long as the ticks that are full is due
pub due_by_log : (plan : PlanModel) (pre : List Row) (c : ℕ) → EachAfter (IsLegal plan) [] pre → c < plan.cores → length (log_of c pre) ≡ length pre / plan.cores → had_turn c (length pre / plan.cores) pre ≡ false
due_by_log plan pre c all l h =
    let s = stands_after plan c 0 [] pre l (stands_none plan c l) all in
    let t = tick_is plan s.0 pre s.1.tick in
    subst (λ n. had_turn c n pre ≡ false) (sym t) (due_cases c s.0 pre (turned s.0 pre c) refl s.1.turns (h ∙ t))

-- a list of no length is empty
none_of_length : (rows : List Row) → length rows ≡ 0 → rows ≡ []
none_of_length [] h = refl
none_of_length (r ∷ rows) h = absurd (omega (arith, h))

-- in a whole run it has a row for each tick
pub core_run_whole : (plan : PlanModel) (rows : List Row) (c : ℕ) → IsRun plan rows → c < plan.cores → length (log_of c rows) ≡ plan.ticks
core_run_whole plan rows c h l =
    let end = stands_after plan c 0 [] rows l (stands_none plan c l) h.each in
    let u = end.0 in
    let s = end.1 in
    let size : length rows ≡ plan.ticks * plan.cores + 0 = omega (arith, h.size, mul_comm plan.cores plan.ticks) in
    let now : plan.ticks ≡ u = sym (div-mul-add plan.ticks plan.cores 0 (omega (arith, l))) ∙ (ap (λ n. n / plan.cores) (sym size) ∙ tick_is plan u rows s.tick) in
    let count = s.tick.count in
    let same = ap (λ n. n * plan.cores) now in
    let none = none_of_length (rows_in u rows) (omega (arith, count, size, same)) in
    let turns = s.turns ∙ ap (λ ws. u + one_if (list_any (λ w. w.core.0 == c) ws)) none in
    omega (arith, turns, now)
