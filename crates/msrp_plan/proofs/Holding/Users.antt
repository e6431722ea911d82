-- Whoever holds a resource is of a task that uses it, and a resource that is used on two cores is
-- global.
use Rattle.msrp_plan.specs.Common.{ℕ, true, false, cond, not, List, length, take, slice_get, Some, list_any, Contains, PlanModel, TaskModel, no_task, task_at, task_of, core_of, units, is_lock_of, locks, unlocks, done, holds, uses, is_global}
use Rattle.msrp_plan.specs.declared.ids.JobId.{JobId}
use Rattle.msrp_plan.specs.declared.ids.ResId.{ResId}
use Rattle.msrp_plan.specs.declared.units.Op.{Op}
use Rattle.msrp_plan.specs.declared.rows.Row.{Row}
use Rattle.std.proofs.Common.{◌≡◌, ◌≤◌, ◌&&◌, ◌==◌, refl, ap, sym, ◌∙◌, arith, inl, inr, eq-eqb}
use Rattle.std.proofs.Math.Bool.{true≢false}
use Rattle.std.proofs.lemmas.Bool.{cases_lt, ltb-true, eqb-true, true_from_ne_false}
use Rattle.std.proofs.lemmas.List.{get_or_past}
use Rattle.std.proofs.lemmas.List.Sums.{length-filter, sum_by-take-le}
use Rattle.std.proofs.lemmas.List.Elements.{Contains-get_or}
use Rattle.msrp_plan.specs.declared.units.Op.TheVariants.{Lock}
use Rattle.msrp_plan.proofs.Lists.AnyAll.{any_in, none_kept}
use Rattle.msrp_plan.proofs.TaskUnits.PlanUnits.{unit_in}

-- a task whose units lock a resource uses it
pub lock_uses : (task : TaskModel) (n : ℕ) (g : ResId) → slice_get task.units n ≡ Some (Lock g) → uses g.0 task ≡ true
lock_uses task n g h = any_in (is_lock_of g.0) task.units (Lock g) (unit_in task.units n (Lock g) h) (eq-eqb g.0 g.0 refl)

-- no lock, so none among the first units
no_lock : (g : ℕ) (us : List Op) (n : ℕ) → list_any (is_lock_of g) us ≡ false → locks g (take n us) ≤ 0
no_lock g us n e =
    let a = length-filter (is_lock_of g) us in
    let b = ap length (none_kept (is_lock_of g) (is_lock_of g) (λ u h. h) us e) in
    let c : locks g (take n us) ≤ locks g us = sum_by-take-le (λ u. cond (is_lock_of g u) 1 0) us n in
    omega (arith, a, b, c)

-- whoever holds a resource uses it
pub holder_uses : (plan : PlanModel) (pre : List Row) (g : ℕ) (j : JobId) → holds plan pre g j ≡ true → uses g (task_of plan j) ≡ true
holder_uses plan pre g j h =
    let behind = take (done j pre) (units plan j) in
    let l = ltb-true (unlocks g behind) (locks g behind) h in
    true_from_ne_false (uses g (task_of plan j)) (λ e. let k = no_lock g (units plan j) (done j pre) e in absurd (omega (arith, l, k)))

-- whoever uses a resource is a task of the plan
pub user_in : (plan : PlanModel) (g t : ℕ) → uses g (task_at plan t) ≡ true → Contains plan.tasks (task_at plan t)
user_in plan g t h =
    elim (cases_lt t (length plan.tasks)) [
      | inl l ↦ Contains-get_or plan.tasks t no_task l
      | inr l ↦ absurd (true≢false (sym h ∙ ap (uses g) (get_or_past plan.tasks t no_task l)))
    ]

-- two tasks of different cores that use a resource make it global
two_cores : (plan : PlanModel) (g : ℕ) (a b : TaskModel) → Contains plan.tasks a → Contains plan.tasks b → uses g a ≡ true → uses g b ≡ true → (a.core == b.core) ≡ false → is_global plan g ≡ true
two_cores plan g a b ina inb ua ub ne =
    let both : (uses g a && (uses g b && not (a.core == b.core))) ≡ true = ap (λ x. x && (uses g b && not (a.core == b.core))) ua ∙ (ap (λ x. x && not (a.core == b.core)) ub ∙ ap not ne) in
    any_in (λ x. list_any (λ y. uses g x && (uses g y && not (x.core == y.core))) plan.tasks) plan.tasks a ina (any_in (λ y. uses g a && (uses g y && not (a.core == y.core))) plan.tasks b inb both)

-- so two jobs that use a local resource are of one core
pub local_core : (plan : PlanModel) (g : ℕ) (i j : JobId) → is_global plan g ≡ false → uses g (task_of plan i) ≡ true → uses g (task_of plan j) ≡ true → core_of plan i ≡ core_of plan j
local_core plan g i j local ui uj =
    eqb-true (core_of plan i) (core_of plan j) (true_from_ne_false (core_of plan i == core_of plan j) (λ ne.
    true≢false (sym (two_cores plan g (task_of plan i) (task_of plan j) (user_in plan g i.task.0 ui) (user_in plan g j.task.0 uj) ui uj ne) ∙ local)))
