use Rattle.msrp_plan.specs.Common.{ℕ, List, None, TaskModel, release_fault, listed_ticks}
use Rattle.std.proofs.Common.{◌≡◌, sym, ap, ◌∙◌}
use Rattle.msrp_plan.specs.Building.{tick_fault}
use Rattle.msrp_plan.specs.Inside.Views.{draft_view, numbers}
use Rattle.msrp_plan.proofs.Building.Drafts.{growing_release, takes_some}
use Rattle.msrp_plan.proofs.builder.PlanBuilder.release.Goals as goal

pub invariant_of-self-2 : goal.invariant_of-self-2
invariant_of-self-2 c =
    let takes = rw (← c.self.view_is) at c.requires in
    let ticks = c.listed.ensures ∙ ap (λ (t : TaskModel). listed_ticks t.times) c.newest.ensures in
    let fault = ap (λ (ts : List ℕ). tick_fault ts c.args.tick) (sym ticks) ∙ (sym c.tick_fault.ensures ∙ c.in_default.is) in
    let good : release_fault (draft_view c.self.inside) c.args.tick ≡ None = rw (← c.self.view_is) at fault in
    rw c.in_ok-add_release.ensures.added (growing_release (draft_view c.self.inside) (numbers c.self.inside.held.items) c.args.tick c.self.invariant (takes_some (draft_view c.self.inside) takes) good)
