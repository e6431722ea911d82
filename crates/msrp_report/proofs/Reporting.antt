-- A report while the rows come, and at their end.
use Rattle.std.proofs.Common.{◌≡◌, ◌≤◌, ◌+◌, ◌*◌, ◌∷◌, ◌++◌, ◌∙◌}
use Rattle.msrp_plan.proofs.Common.{ℕ, Bool, true, false, cond, List, [], Option, Some, None, refl, ap, sym, subst, length, map, nat_lt, take, drop, All, range_with_len, ltb-true, take-append-drop, All-from_recursion, PlanModel, IsRun, IsRunStart, broken, fault_in, fault_or, IsPlan, fault_push, start_is_good, unbroken_is_legal}
use Rattle.msrp_plan.specs.declared.faults.Rule.{Rule}
use Rattle.msrp_plan.specs.declared.faults.Rule.TheVariants.{A7}
use Rattle.msrp_report.proofs.Common.{Line, Row, line_of}
use Rattle.msrp_plan.proofs.Runs.Verdicts.{run_before, start_push}
use Rattle.msrp_report.proofs.LineJobs.{all_blocked_kept, spins_kept}

-- ---- a row without a fault goes on with the rows
unfaulty : (b : Bool) (o : Option Rule) (n : ℕ) → fault_or (cond b o (Some A7)) n None ≡ None → (b ≡ true) × (o ≡ None)
unfaulty true None n h = (refl, refl)
unfaulty true (Some rule) n h = absurd (cc)
unfaulty false o n h = absurd (cc)

pub goes_on : (plan : PlanModel) (rows : List Row) (r : Row) → IsRunStart plan rows → fault_in plan (rows ++ r ∷ []) ≡ None → IsRunStart plan (rows ++ r ∷ [])
goes_on plan rows r start good =
    let both = unfaulty (nat_lt (length rows) (plan.cores * plan.ticks)) (broken plan rows r) (length rows + 1) (sym (fault_push plan rows r (start_is_good plan rows start)) ∙ good) in
    start_push plan rows r start (ltb-true (length rows) (plan.cores * plan.ticks) both.0) (unbroken_is_legal plan rows r both.1)

-- ---- at the end
-- the lines of rows without a fault keep the bounds
pub spins_bounded : (plan : PlanModel) (rows : List Row) (lines : List Line) (n : ℕ) → IsPlan plan → IsRunStart plan rows → n ≡ length plan.tasks → lines ≡ map (line_of plan rows) (range_with_len 0 n) → All (λ (l : Line). l.worst_spin ≤ l.spin_bound) lines
spins_bounded plan rows lines n ok start all e =
    subst (All (λ (l : Line). l.worst_spin ≤ l.spin_bound)) (sym (e ∙ ap (λ k. map (line_of plan rows) (range_with_len 0 k)) all)) (All-from_recursion (λ (l : Line). l.worst_spin ≤ l.spin_bound) _ (spins_kept plan rows ok start))

pub blocked_bounded : (plan : PlanModel) (rows : List Row) (lines : List Line) (n : ℕ) → IsPlan plan → IsRunStart plan rows → n ≡ length plan.tasks → lines ≡ map (line_of plan rows) (range_with_len 0 n) → All (λ (l : Line). l.worst_blocked ≤ l.blocked_bound) lines
blocked_bounded plan rows lines n ok start all e =
    subst (All (λ (l : Line). l.worst_blocked ≤ l.blocked_bound)) (sym (e ∙ ap (λ k. map (line_of plan rows) (range_with_len 0 k)) all)) (All-from_recursion (λ (l : Line). l.worst_blocked ≤ l.blocked_bound) _ (all_blocked_kept plan rows ok start))

-- rows of a run have no fault with the next one
pub part_good : (plan : PlanModel) (rows part : List Row) (n : ℕ) → IsRun plan rows → take n rows ≡ part → fault_in plan part ≡ None
part_good plan rows part n run is = start_is_good plan part (subst (IsRunStart plan) is (run_before plan (take n rows) (drop n rows) (subst (IsRun plan) (sym (take-append-drop n rows)) run)))
