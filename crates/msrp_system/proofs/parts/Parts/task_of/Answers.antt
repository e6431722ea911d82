use Rattle.std.proofs.Common.{◌∙◌}
use Rattle.msrp_plan.proofs.Common.{ap, sym, map, name_position, PlanModel, TaskModel}
use Rattle.msrp_system.specs.Systems.{task_view}
use Rattle.msrp_system.proofs.NamedParts.{task_named}
use Rattle.msrp_system.proofs.parts.Parts.task_of.Goals as goal

pub returns-in-Some : goal.returns-in-Some
returns-in-Some c =
    sym c.in-Some.is ∙ (c.task_place.ensures ∙ (task_named c.deref.result.now c.args.name.now
    ∙ (ap (λ ts. name_position (map (λ (t : TaskModel). t.name) (map task_view ts)) c.args.name.now) c.deref.ensures.value
    ∙ ap (λ (p : PlanModel). name_position (map (λ (t : TaskModel). t.name) p.tasks) c.args.name.now) c.self.view_is)))

pub returns-in-None : goal.returns-in-None
returns-in-None c =
    sym c.in-None.is ∙ (c.task_place.ensures ∙ (task_named c.deref.result.now c.args.name.now
    ∙ (ap (λ ts. name_position (map (λ (t : TaskModel). t.name) (map task_view ts)) c.args.name.now) c.deref.ensures.value
    ∙ ap (λ (p : PlanModel). name_position (map (λ (t : TaskModel). t.name) p.tasks) c.args.name.now) c.self.view_is)))
