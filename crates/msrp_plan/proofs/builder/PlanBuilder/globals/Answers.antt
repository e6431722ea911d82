use Rattle.msrp_plan.specs.Common.{get_or, is_global}
use Rattle.std.proofs.Common.{◌≡◌, ◌∙◌, refl, arith}
use Rattle.msrp_plan.specs.Inside.Views.{draft_view}
use Rattle.msrp_plan.specs.declared.users.Users.TheVariants.{Nobody}
use Rattle.msrp_plan.proofs.Levels.CoreUsers.{global_noted}
use Rattle.msrp_plan.proofs.Levels.GlobalUse.{marked_all, marked_more, marked_none}
use Rattle.msrp_plan.proofs.builder.PlanBuilder.globals.Goals as goal

pub loop-res-init : goal.loop-res-init
loop-res-init c = marked_none c.args.self.now

pub loop-res-preserved : goal.loop-res-preserved
loop-res-preserved c =
    let plan = draft_view c.self.inside in
    let g = c.loop-res.res in
    let within = c.loop-res-test.true in
    let users = get_or c.users_of-users.result g Nobody in
    let global : c.are_on_two.result ≡ is_global plan g = c.are_on_two.ensures ∙ global_noted plan c.self.inside.parts.tasks.entries g users refl (c.users_of-users.ensures g within) in
    let marks = rw (← c.self.view_is) at c.loop-res.invariant in
    rw (← c.self.view_is) (marked_more plan c.loop-res.globals g c.are_on_two.result within global marks)

pub returns : goal.returns
returns c =
    let plan = draft_view c.self.inside in
    let marks = rw (← c.self.view_is) at c.loop-res.invariant in
    rw (← c.self.view_is) (marked_all plan c.loop-res.globals c.loop-res.res c.self.invariant.draft (omega (arith, c.loop-res-test.false, c.self.invariant.draft.resources)) marks)
