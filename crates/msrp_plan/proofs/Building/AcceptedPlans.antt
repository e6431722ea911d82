-- A plan that a builder takes, told call by call, is well formed: so a plan that is written out is
-- shown to be so by computing.
use Rattle.msrp_plan.specs.Common.{ℕ, Bool, true, nat_lt, List, [], map, length, drop, Option, Some, None, is_none, flat_map, PlanModel, TaskModel, ReleaseTimes, Every, Listed, listed_ticks, IsPlan, empty_plan, with_resource, with_task, with_release, with_units, new_task, takes_releases, release_fault, units_of, new_fault, resource_fault, task_fault, op_fault, finish_fault}
use Rattle.msrp_plan.specs.declared.faults.PlanFault.{PlanFault}
use Rattle.msrp_plan.specs.declared.units.Op.{Op}
use Rattle.msrp_plan.specs.declared.units.Step.{Step}
use Rattle.std.proofs.Common.{◌≡◌, ◌<◌, ◌&&◌, ◌∷◌, ◌++◌, refl, subst}
use Rattle.std.proofs.lemmas.Bool.{and_parts, ltb-true}
use Rattle.msrp_plan.specs.Building.{AreNew}
use Rattle.msrp_plan.specs.Inside.Views.{IsGrowing}
use Rattle.msrp_plan.specs.declared.units.Op.TheVariants as unit
use Rattle.msrp_plan.specs.declared.units.Step.TheVariants.{Run, Lock, Unlock}
use Rattle.msrp_plan.proofs.Building.Drafts.{growing_none, growing_resource, growing_task, growing_release, growing_run, growing_lock, growing_unlock, takes_some}
use Rattle.msrp_plan.proofs.Building.Finished.{plan_from}

-- ---- the calls
pub data Call : Type 0 where
  Resource : List ℕ → Call
  Task : TaskModel → Call
  Release : ℕ → Call
  Do : Step → Call

-- a task as it is declared, without the ticks of its list and its units
abbrev pub without_ticks : ReleaseTimes → ReleaseTimes
without_ticks (Every period offset) = Every period offset
without_ticks (Listed ticks) = Listed []

abbrev pub bare : TaskModel → TaskModel
bare task = new_task task.name task.core (without_ticks task.times) task.deadline

without_new : (times : ReleaseTimes) → AreNew (without_ticks times)
without_new (Every period offset) = tt
without_new (Listed ticks) = refl

-- what a call adds
abbrev pub after : PlanModel → Call → PlanModel
after plan (Resource name) = with_resource plan name
after plan (Task task) = with_task plan (bare task)
after plan (Release tick) = with_release plan tick
after plan (Do step) = with_units plan (units_of step)

-- whether it may be made
abbrev pub is_taken : PlanModel → Call → Bool
is_taken plan (Resource name) = is_none (resource_fault plan name)
is_taken plan (Task task) = is_none (task_fault plan (bare task))
is_taken plan (Release tick) = takes_releases plan && is_none (release_fault plan tick)
is_taken plan (Do step) = nat_lt 0 (length plan.tasks) && is_none (op_fault plan step)

-- what all calls add
abbrev pub after_all : PlanModel → List Call → PlanModel
after_all plan [] = plan
after_all plan (c ∷ cs) = after_all (after plan c) cs

-- whether each may be made, and the last one after them
abbrev pub are_taken : PlanModel → List Call → Bool
are_taken plan [] = is_none (finish_fault plan)
are_taken plan (c ∷ cs) = is_taken plan c && are_taken (after plan c) cs

-- ---- each keeps a growing draft
-- a call with no fault
no_fault : (fault : Option PlanFault) → is_none fault ≡ true → fault ≡ None
no_fault None h = refl
no_fault (Some fault) h = absurd (cc)

-- a draft that grows, whatever its newest task holds
abbrev Grows : PlanModel → Type 0
Grows plan = (held : List ℕ) × IsGrowing plan held

-- by the step
step_grows : (plan : PlanModel) (step : Step) → Grows plan → 0 < length plan.tasks → op_fault plan step ≡ None → Grows (with_units plan (units_of step))
step_grows plan (Run n) g some e = (g.0, growing_run plan g.0 n g.1 some e)
step_grows plan (Lock r) g some e = (r.0 ∷ g.0, growing_lock plan g.0 r g.1 some e)
step_grows plan (Unlock r) g some e = (drop 1 g.0, growing_unlock plan g.0 r g.1 some e)

-- by the call
call_grows : (plan : PlanModel) (c : Call) → Grows plan → is_taken plan c ≡ true → Grows (after plan c)
call_grows plan (Resource name) g h = (g.0, growing_resource plan g.0 name g.1 (no_fault (resource_fault plan name) h))
call_grows plan (Task task) g h = (g.0, growing_task plan g.0 (bare task) g.1 (without_new task.times) refl (no_fault (task_fault plan (bare task)) h))
call_grows plan (Release tick) g h =
    let both = and_parts (takes_releases plan) (is_none (release_fault plan tick)) h in
    (g.0, growing_release plan g.0 tick g.1 (takes_some plan both.0) (no_fault (release_fault plan tick) both.1))
call_grows plan (Do step) g h =
    let both = and_parts (nat_lt 0 (length plan.tasks)) (is_none (op_fault plan step)) h in
    step_grows plan step g (ltb-true 0 (length plan.tasks) both.0) (no_fault (op_fault plan step) both.1)

-- call by call, up to the last
all_grow : (plan : PlanModel) (cs : List Call) → Grows plan → are_taken plan cs ≡ true → IsPlan (after_all plan cs)
all_grow plan [] g h = plan_from plan g.0 g.1 (no_fault (finish_fault plan) h)
all_grow plan (c ∷ cs) g h =
    let both = and_parts (is_taken plan c) (are_taken (after plan c) cs) h in
    all_grow (after plan c) cs (call_grows plan c g both.0) both.1

-- ---- a plan by its calls
-- the step that stands for a unit
abbrev pub step_of : Op → Step
step_of unit.Run = Run 1
step_of (unit.Lock r) = Lock r
step_of (unit.Unlock r) = Unlock r

-- a task is declared, then its listed releases, and then its units
abbrev pub task_calls : TaskModel → List Call
task_calls task = Task task ∷ map (λ tick. Release tick) (listed_ticks task.times) ++ map (λ u. Do (step_of u)) task.units

-- the resources come first
abbrev pub calls : PlanModel → List Call
calls plan = map (λ name. Resource name) plan.resources ++ flat_map task_calls plan.tasks

-- a plan of which each call is taken, and which its calls give, is well formed
pub accepted_plan : (plan : PlanModel) → new_fault plan.cores plan.ticks ≡ None → are_taken (empty_plan plan.cores plan.ticks) (calls plan) ≡ true → after_all (empty_plan plan.cores plan.ticks) (calls plan) ≡ plan → IsPlan plan
accepted_plan plan new taken same = subst IsPlan same (all_grow (empty_plan plan.cores plan.ticks) (calls plan) ([], growing_none plan.cores plan.ticks new) taken)
