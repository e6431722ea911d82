-- How many turns each core had, by the number of rows and by the tick of its last one.
use Rattle.msrp_plan.proofs.Common.{ℕ, Bool, true, false, List, [], refl, ap, sym, subst, arith, length, length-append, eqb-true, take, replicate, get_or, set, inl, inr, cases_eq, get_or-set_at, div-mul-add, get_or-replicate, length-take-le, PlanModel, log_of, IsLegal, IsRunStart, EachAfter, had_turn, IsPlan, along, log_own, log_other, start_before, start_last}
use Rattle.std.proofs.Common.{◌≡◌, ◌+◌, ◌*◌, ◌/◌, ◌<◌, ◌≤◌, ◌==◌, ◌∷◌, ◌++◌, ◌∙◌, get_or-set_other}
use Rattle.msrp_plan.specs.declared.rows.Row.{Row}
use Rattle.msrp_plan.proofs.Runs.CoreRuns.{reached_tick}
use Rattle.msrp_plan.proofs.Runs.Ticks.{IsTick, AnyTick, rows_in, any_both, tick_is, tick_none, fresh, any_tick_push}
use Rattle.msrp_audit.specs.Inside.Walks.{AreNextTurns}
use Rattle.msrp_audit.proofs.Judging.{reached}
use Rattle.msrp_audit.proofs.Scanning.{one_more}

none_left : (xs : List Row) (a : ℕ) → a ≡ a + length xs → xs ≡ []
none_left [] a h = refl
none_left (x ∷ xs) a h = absurd (omega (arith, h))

-- after full ticks nobody has had a turn in the next one
none_turned : (plan : PlanModel) (pre : List Row) (t c : ℕ) → 0 < plan.cores → EachAfter (IsLegal plan) [] pre → length pre ≡ t * plan.cores → had_turn c t pre ≡ false
none_turned plan pre t c some all size =
    let tick : AnyTick plan pre = along (AnyTick plan) (IsLegal plan) (λ p r k h. any_tick_push plan p r k h) [] pre (0, tick_none plan some) all in
    let now : length pre / plan.cores ≡ t = ap (λ n. n / plan.cores) (let e : length pre ≡ t * plan.cores + 0 = omega (arith, size) in e) ∙ div-mul-add t plan.cores 0 some in
    let is : tick.0 ≡ t = sym (tick_is plan tick.0 pre tick.1) ∙ now in
    let at : IsTick plan t pre = subst (λ n. IsTick plan n pre) is tick.1 in
    let empty : rows_in t pre ≡ [] = none_left (rows_in t pre) (t * plan.cores) (sym size ∙ at.count) in
    any_both (λ w. w.tick == t) (λ w. w.core.0 == c) pre ∙ fresh t pre c empty

-- so each core had its turn in each of these
pub turns_full : (plan : PlanModel) (pre : List Row) (t c : ℕ) → IsPlan plan → IsRunStart plan pre → length pre ≡ t * plan.cores → c < plan.cores → length (log_of c pre) ≡ t
turns_full plan pre t c ok start size low =
    let some = ok.draft.cores.0 in
    let now : length pre / plan.cores ≡ t = ap (λ n. n / plan.cores) (let e : length pre ≡ t * plan.cores + 0 = omega (arith, size) in e) ∙ div-mul-add t plan.cores 0 some in
    reached plan pre c ok start.each low (ap (λ n. had_turn c n pre) now ∙ none_turned plan pre t c some start.each size) ∙ now

-- and before a part of the ticks in each tick before it
pub next_at : (plan : PlanModel) (rows : List Row) (part cores n : ℕ) → IsPlan plan → cores ≡ plan.cores → n ≡ part * (cores * 1250) → n ≤ length rows → IsRunStart plan (take n rows) → AreNextTurns plan (replicate 8 (part * 1250)) (take n rows)
next_at plan rows part cores n ok same is within start c low =
    let few = ok.draft.cores.1 in
    let turns : part * (plan.cores * 1250) ≡ part * 1250 * plan.cores = grind arith in
    get_or-replicate 8 c (part * 1250) 0 (omega (arith, low, few))
    ∙ sym (turns_full plan (take n rows) (part * 1250) c ok start (length-take-le n rows within ∙ (is ∙ (ap (λ m. part * (m * 1250)) same ∙ turns))) low)

-- after one row more the next turn of its core is in the tick behind it
pub next_more : (plan : PlanModel) (next : List ℕ) (rows : List Row) (i : ℕ) (r : Row) → IsPlan plan → length next ≡ 8 → r.core.0 < plan.cores → i < length rows → r ≡ get_or rows i r
    → (IsRunStart plan (take i rows) → AreNextTurns plan next (take i rows)) → IsRunStart plan (take (i + 1) rows) → AreNextTurns plan (set next r.core.0 (r.tick + 1)) (take (i + 1) rows)
next_more plan next rows i r ok size known within at turns start c low =
    let pre = take i rows in
    let more = one_more rows i r within at in
    let whole : IsRunStart plan (pre ++ r ∷ []) = subst (IsRunStart plan) more start in
    let before = start_before plan pre (r ∷ []) whole in
    let few = ok.draft.cores.1 in
    elim (cases_eq c r.core.0) [
      | inl same ↦
          let tick : r.tick ≡ length (log_of r.core.0 pre) = reached_tick plan pre r before.each (start_last plan pre r whole) in
          let log : length (log_of c (take (i + 1) rows)) ≡ length (log_of c pre) + 1 = ap (λ l. length (log_of c l)) more ∙ (ap length (log_own pre r c (sym same)) ∙ length-append (log_of c pre) (r ∷ [])) in
          get_or-set_at next r.core.0 c (r.tick + 1) 0 same (omega (arith, known, few, size)) ∙ (ap (λ n. n + 1) (tick ∙ ap (λ k. length (log_of k pre)) (sym same)) ∙ sym log)
      | inr other ↦
          get_or-set_other next r.core.0 c (r.tick + 1) 0 other ∙ (turns before c low ∙ ap length (sym (ap (log_of c) more ∙ log_other pre r c (λ e. other (sym e)))))
    ]

-- the tick that the test finds due is that of the next row
pub due_tick : (plan : PlanModel) (pre : List Row) (tick i cores : ℕ) (b : Bool) → IsPlan plan → cores ≡ plan.cores → (0 < cores → b ≡ (tick == i / cores)) → b ≡ true → i ≡ length pre → tick ≡ length pre / plan.cores
due_tick plan pre tick i cores b ok same test holds size =
    let some = ok.draft.cores.0 in
    eqb-true tick (i / cores) (sym (test (omega (arith, some, same))) ∙ holds) ∙ (ap (λ n. i / n) same ∙ ap (λ n. n / plan.cores) size)
