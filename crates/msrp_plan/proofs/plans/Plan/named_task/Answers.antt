use Rattle.msrp_plan.specs.Common.{slice_index_or, PlanModel, task_at}
use Rattle.std.proofs.Common.{◌≡◌, sym, ◌∙◌, subst, ap}
use Rattle.msrp_plan.specs.Inside.Tasks.{task_view}
use Rattle.msrp_plan.proofs.Building.Stored.{task_in}
use Rattle.msrp_plan.proofs.plans.Plan.named_task.Goals as goal

pub returns-clause-stored : goal.returns-clause-stored
returns-clause-stored c =
    let name = c.index-as_slice-number.result in
    let task = c.index.result.now in
    let named : name ≡ slice_index_or c.keys.result c.args.task.0 name = c.index-as_slice-number.is ∙ ap (λ ks. slice_index_or ks c.args.task.0 name) c.as_slice.ensures in
    subst (λ (p : PlanModel). task_view (name, task) ≡ task_at p c.args.task.0) c.self.view_is
    (sym (task_in c.self.inside.parts.tasks.entries c.args.task.0 name task (named ∙ ap (λ ks. slice_index_or ks c.args.task.0 name) c.keys.ensures.rest) c.index.ensures))
