use Rattle.std.proofs.Common.{sym, ◌∙◌}
use Rattle.msrp_plan.specs.Inside.Views.{draft_view, numbers}
use Rattle.msrp_plan.proofs.Building.Finished.{plan_from}
use Rattle.msrp_plan.proofs.builder.PlanBuilder.finish.Goals as goal

pub invariant_of-result : goal.invariant_of-result
invariant_of-result c =
    let good = rw (← c.self.view_is) at (sym c.finish_fault.ensures ∙ c.in_default.is) in
    let marked = rw (← c.self.view_is) at c.globals-globals.ensures in
    (plan_from (draft_view c.self.inside) (numbers c.self.inside.held.items) c.self.invariant good, marked)
