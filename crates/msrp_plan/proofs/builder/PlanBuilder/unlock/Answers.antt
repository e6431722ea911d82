use Rattle.std.proofs.lemmas.List.{drop-map}
use Rattle.msrp_plan.specs.Inside.Views.{draft_view, numbers}
use Rattle.msrp_plan.specs.declared.ids.ResId.{ResId}
use Rattle.msrp_plan.proofs.Building.Drafts.{growing_unlock}
use Rattle.msrp_plan.proofs.builder.PlanBuilder.unlock.Goals as goal

pub invariant_of-self-2 : goal.invariant_of-self-2
invariant_of-self-2 c =
    let some = rw (← c.self.view_is) at c.requires.some in
    let good = rw (← c.self.view_is) at c.requires.good in
    rw (c.in_ok-add_units.ensures.added, c.pop_front.ensures.rest, ← drop-map (λ (r : ResId). r.0) 1 c.self.inside.held.items) (growing_unlock (draft_view c.self.inside) (numbers c.self.inside.held.items) c.args.res c.self.invariant some good)
