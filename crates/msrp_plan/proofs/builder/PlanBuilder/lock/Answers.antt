use Rattle.msrp_plan.specs.Inside.Views.{draft_view, numbers}
use Rattle.msrp_plan.proofs.Building.Drafts.{growing_lock}
use Rattle.msrp_plan.proofs.builder.PlanBuilder.lock.Goals as goal

pub invariant_of-self-2 : goal.invariant_of-self-2
invariant_of-self-2 c =
    let some = rw (← c.self.view_is) at c.requires.some in
    let good = rw (← c.self.view_is) at c.requires.good in
    rw (c.in_ok-add_units.ensures.added, c.in_ok-push_front.ensures.items, c.reserve.ensures.items) (growing_lock (draft_view c.self.inside) (numbers c.self.inside.held.items) c.args.res c.self.invariant some good)
