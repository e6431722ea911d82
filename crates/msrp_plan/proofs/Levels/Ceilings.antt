-- What the current ceiling of a core is not below.
use Rattle.msrp_plan.specs.Common.{ℕ, Bool, true, false, cond, not, List, length, list_any, Contains, PlanModel, TaskModel, task_of, core_of, jobs_on, holds, is_queued, is_global, local_ceiling, top, level, level_of, uses, resources, is_held_on, is_queued_on, ceiling}
use Rattle.msrp_plan.specs.declared.ids.JobId.{JobId}
use Rattle.msrp_plan.specs.declared.rows.Row.{Row}
use Rattle.std.proofs.Common.{◌≡◌, ◌<◌, ◌≤◌, ◌&&◌, ◌||◌, ◌==◌, ap, ◌∙◌, arith, eq-eqb}
use Rattle.std.proofs.Math.Bool.{or-true}
use Rattle.msrp_plan.specs.Ceiling.{raised_with}
use Rattle.msrp_plan.proofs.Lists.AnyAll.{any_in, in_range}
use Rattle.msrp_plan.proofs.Lists.LeastKept.{greatest_above}

-- the resources are numbered from 0
pub in_resources : (plan : PlanModel) (g : ℕ) → g < length plan.resources → Contains (resources plan) g
in_resources plan g l = in_range g (length plan.resources) l

-- what a job of the core holds is held on the core
pub held_on : (plan : PlanModel) (c g : ℕ) (pre : List Row) (j : JobId) → Contains (jobs_on plan c) j → holds plan pre g j ≡ true → is_held_on plan c pre g ≡ true
held_on plan c g pre j there held = any_in (holds plan pre g) (jobs_on plan c) j there held

-- ---- local resources
-- the ceiling is not below that of a local resource that is held
pub ceiling_above : (plan : PlanModel) (c g : ℕ) (pre : List Row) (j : JobId) → Contains (jobs_on plan c) j → Contains (resources plan) g → is_global plan g ≡ false → holds plan pre g j ≡ true → local_ceiling plan g ≤ ceiling plan c pre
ceiling_above plan c g pre j there named local held =
    let p : (not (is_global plan g) && is_held_on plan c pre g) ≡ true = ap (λ b. not b && is_held_on plan c pre g) local ∙ held_on plan c g pre j there held in
    let k = greatest_above (local_ceiling plan) (λ h. not (is_global plan h) && is_held_on plan c pre h) (resources plan) g named p in
    omega (arith, k)

-- the ceiling of a local resource is not below the level of a task that uses it
pub user_below : (plan : PlanModel) (g : ℕ) (task : TaskModel) → Contains plan.tasks task → uses g task ≡ true → level_of plan task ≤ local_ceiling plan g
user_below plan g task there used = greatest_above (level_of plan) (uses g) plan.tasks task there used

-- ---- global resources
-- a job of the core is queued for a global resource, or holds one
abbrev pub is_raised : PlanModel → ℕ → List Row → Bool
is_raised plan c pre = raised_with plan (is_queued_on plan c pre) (is_held_on plan c pre)

-- the ceiling of a core that is raised is not below its highest level
pub raised_above : (plan : PlanModel) (c : ℕ) (pre : List Row) → is_raised plan c pre ≡ true → top plan c ≤ ceiling plan c pre
raised_above plan c pre e =
    let k : cond (is_raised plan c pre) (top plan c) 0 ≡ top plan c = ap (λ b. cond b (top plan c) 0) e in
    omega (arith, k)

-- no task of the core is above its highest level
pub top_above : (plan : PlanModel) (c : ℕ) (j : JobId) → Contains plan.tasks (task_of plan j) → core_of plan j ≡ c → level plan j.task.0 ≤ top plan c
top_above plan c j there e = greatest_above (level_of plan) (λ w. w.core == c) plan.tasks (task_of plan j) there (eq-eqb (core_of plan j) c e)

-- a job of the core that holds a global resource raises it, and so does one that is queued
pub holder_raises : (plan : PlanModel) (c g : ℕ) (pre : List Row) (j : JobId) → is_global plan g ≡ true → Contains (resources plan) g → Contains (jobs_on plan c) j → holds plan pre g j ≡ true → is_raised plan c pre ≡ true
holder_raises plan c g pre j glob named there held =
    let some : list_any (λ h. is_global plan h && is_held_on plan c pre h) (resources plan) ≡ true = any_in (λ h. is_global plan h && is_held_on plan c pre h) (resources plan) g named (ap (λ b. b && is_held_on plan c pre g) glob ∙ held_on plan c g pre j there held) in
    ap (λ b. list_any (is_queued pre) (jobs_on plan c) || b) some ∙ or-true (list_any (is_queued pre) (jobs_on plan c))

-- a job of the core that is queued raises it
pub queued_raises : (plan : PlanModel) (c : ℕ) (pre : List Row) (j : JobId) → Contains (jobs_on plan c) j → is_queued pre j ≡ true → is_raised plan c pre ≡ true
queued_raises plan c pre j there q = ap (λ b. b || list_any (λ h. is_global plan h && is_held_on plan c pre h) (resources plan)) (any_in (is_queued pre) (jobs_on plan c) j there q)
