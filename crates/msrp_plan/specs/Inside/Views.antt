-- What a clause sees of a stored plan and of a stored draft.
use Rattle.std.specs.Prelude.{ℕ, List, Some, map, length, string_bytes, ◌≡◌, ◌<◌, ◌+◌}
use Rattle.msrp_plan.specs.Plan.{PlanModel, task_at}
use Rattle.msrp_plan.specs.Units.{held_after}
use Rattle.msrp_plan.specs.WellFormed.{IsDraft, IsPlan, IsWhole}
use Rattle.msrp_plan.specs.Building.{newest_units}
use Rattle.msrp_plan.specs.Inside.Marks.{AreGlobals}
use Rattle.msrp_plan.specs.Inside.Tasks.{task_view}
use Rattle.msrp_plan.specs.declared.ids.ResId.{ResId}
use Rattle.msrp_plan.specs.declared.parts.Parts.{Parts}
use Rattle.msrp_plan.specs.declared.plans.Plan.TheInside as plan
use Rattle.msrp_plan.specs.declared.builder.PlanBuilder.TheInside as draft

-- the parts of either
abbrev pub parts_view : Parts → PlanModel
parts_view p = record { cores = p.cores; ticks = p.ticks; resources = map string_bytes p.resources.keys; tasks = map task_view p.tasks.entries }

-- what a clause sees of a plan
abbrev pub plan_view : plan.Inside → PlanModel
plan_view p = parts_view p.parts

-- a plan is well formed, and its global resources are marked
abbrev pub IsPlanView : plan.Inside → Type 0
IsPlanView p = IsPlan (plan_view p) × AreGlobals (plan_view p) p.globals

-- what a clause sees of a draft
abbrev pub draft_view : draft.Inside → PlanModel
draft_view b = parts_view b.parts

-- the numbers of resources
abbrev pub numbers : List ResId → List ℕ
numbers rs = map (λ r. r.0) rs

-- a draft, whose tasks but the newest are whole, and what the newest holds, the innermost first
pub record IsGrowing (plan : PlanModel) (held : List ℕ) : Type 0 where
  pub draft : IsDraft plan
  pub whole : (t : ℕ) → t + 1 < length plan.tasks → IsWhole (task_at plan t)
  pub holds : held_after (newest_units plan) ≡ Some held

-- a draft's fields say what the newest task holds
abbrev pub IsBuilding : draft.Inside → Type 0
IsBuilding b = IsGrowing (draft_view b) (numbers b.held.items)
