-- What a well-formed plan says of the units of any task number, also of one that it lacks: that has
-- no unit.
use Rattle.msrp_plan.specs.Common.{ℕ, List, [], Some, length, slice_get, Contains, PlanModel, TaskModel, no_task, task_at, locks, unlocks, IsLocking, IsPlan}
use Rattle.msrp_plan.specs.declared.units.Op.{Op}
use Rattle.std.proofs.Common.{◌≡◌, ◌<◌, ◌≤◌, refl, ap, sym, ◌∙◌, subst, inl, inr}
use Rattle.std.proofs.lemmas.Bool.{cases_lt}
use Rattle.std.proofs.lemmas.List.{get_or_past}
use Rattle.std.proofs.lemmas.List.Elements.{Contains-get_or}
use Rattle.std.proofs.lemmas.Option.{get_or_from_slice_get, slice_get_within}
use Rattle.msrp_plan.specs.WellFormed.{IsFlat}
use Rattle.msrp_plan.specs.declared.units.Op.TheVariants.{Lock}
use Rattle.msrp_plan.proofs.TaskUnits.Nesting.{locks_none}

-- no units have no unit
no_unit : (n : ℕ) (op : Op) → slice_get [] n ≡ Some op → ⊥
no_unit n op h = cc

-- what stands at a place of the units is one of them
pub unit_in : (us : List Op) (n : ℕ) (op : Op) → slice_get us n ≡ Some op → Contains us op
unit_in us n op h = (n, slice_get_within us n op h, get_or_from_slice_get us n op op h)

-- a task number past the last stands for no task
past : (plan : PlanModel) (t : ℕ) → length plan.tasks ≤ t → task_at plan t ≡ no_task
past plan t l = get_or_past plan.tasks t no_task l

-- a task that has a unit is one of the plan
pub task_in : (plan : PlanModel) (t n : ℕ) (op : Op) → slice_get (task_at plan t).units n ≡ Some op → Contains plan.tasks (task_at plan t)
task_in plan t n op h =
    elim (cases_lt t (length plan.tasks)) [
      | inl l ↦ Contains-get_or plan.tasks t no_task l
      | inr g ↦ absurd (no_unit n op (sym (ap (λ (a : TaskModel). slice_get a.units n) (past plan t g)) ∙ h))
    ]

-- what holds of the units of each task, and of no units, holds of those of any task number
every_task : (plan : PlanModel) (P : List Op → Type 0) → P [] → ((t : ℕ) → t < length plan.tasks → P (task_at plan t).units) → (t : ℕ) → P (task_at plan t).units
every_task plan P none each t =
    elim (cases_lt t (length plan.tasks)) [
      | inl l ↦ each t l
      | inr g ↦ subst (λ (a : TaskModel). P a.units) (sym (past plan t g)) none
    ]

-- and put no global resource in a global one
none_flat : (plan : PlanModel) → IsFlat plan []
none_flat plan = record { alone = λ n g h e. absurd (no_unit n (Lock h) e) }

-- locks nest, and those of each resource alternate with its unlocks
pub units_lock : (plan : PlanModel) → IsPlan plan → (t : ℕ) → IsLocking plan (task_at plan t).units
units_lock plan ok = every_task plan (IsLocking plan) (locks_none plan) ok.draft.locking

-- whoever has done all of its units holds nothing
pub units_balance : (plan : PlanModel) → IsPlan plan → (t g : ℕ) → unlocks g (task_at plan t).units ≡ locks g (task_at plan t).units
units_balance plan ok t g = every_task plan (λ us. unlocks g us ≡ locks g us) refl (λ n l. (ok.whole n l).balanced g) t

-- at a lock of a global resource no global one is held
pub units_flat : (plan : PlanModel) → IsPlan plan → (t : ℕ) → IsFlat plan (task_at plan t).units
units_flat plan ok = every_task plan (IsFlat plan) (none_flat plan) ok.flat
