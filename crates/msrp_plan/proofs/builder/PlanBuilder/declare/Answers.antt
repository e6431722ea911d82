use Rattle.msrp_plan.specs.Common.{[], map, None, task_fault, new_task}
use Rattle.std.proofs.Common.{◌≡◌, ◌++◌, ◌∷◌, sym, ◌∙◌, refl}
use Rattle.msrp_plan.specs.Inside.Tasks.{task_view, times_view}
use Rattle.msrp_plan.specs.Inside.Views.{draft_view}
use Rattle.msrp_plan.proofs.Building.Drafts.{growing_task, task_new}
use Rattle.msrp_plan.proofs.builder.PlanBuilder.declare.Goals as goal

-- an accepted task has a new name
pub add_task-requires : goal.add_task-requires
add_task-requires c =
    let asked = new_task c.args.name.now c.args.core.0 (times_view c.args.releases) c.args.deadline in
    let good : task_fault (draft_view c.self.inside) asked ≡ None = rw (← c.self.view_is) at (sym c.task_fault.ensures ∙ c.in_default.is) in
    task_new (draft_view c.self.inside) asked good

pub invariant_of-self-2 : goal.invariant_of-self-2
invariant_of-self-2 c =
    let asked = new_task c.args.name.now c.args.core.0 (times_view c.args.releases) c.args.deadline in
    let good : task_fault (draft_view c.self.inside) asked ≡ None = rw (← c.self.view_is) at (sym c.task_fault.ensures ∙ c.in_default.is) in
    let none = c.new.ensures.items in
    let tasks : map task_view c.add_task.new.tasks.entries ≡ map task_view c.self.inside.parts.tasks.entries ++ asked ∷ [] = c.in_ok-add_task.ensures.added ∙ rw none refl in
    rw tasks (growing_task (draft_view c.self.inside) _ asked c.self.invariant c.requires refl good)
