use Rattle.msrp_plan.specs.Common.{length}
use Rattle.std.proofs.Common.{◌-◌, refl}
use Rattle.std.proofs.lemmas.List.{length-map}
use Rattle.msrp_plan.specs.Inside.Tasks.{task_view}
use Rattle.msrp_plan.proofs.Building.Stored.{view_at}
use Rattle.msrp_plan.proofs.builder.PlanBuilder.newest.Goals as goal

pub returns : goal.returns
returns c =
    let es = c.self.inside.parts.tasks.entries in
    let last = length-map es task_view in
    let at = view_at es (length es - 1) c.index.result.now (rw c.len.ensures.len at c.index.ensures) in
    rw (← c.self.view_is, last, at.1) refl
