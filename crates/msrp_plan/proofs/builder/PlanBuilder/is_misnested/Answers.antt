use Rattle.std.proofs.Common.{sym, ap, ◌∙◌}
use Rattle.msrp_plan.specs.Building.{is_improper}
use Rattle.msrp_plan.specs.Inside.Views.{numbers}
use Rattle.msrp_plan.specs.declared.units.Op.TheVariants.{Lock}
use Rattle.msrp_plan.proofs.Building.Drafts.{improper_lock}
use Rattle.msrp_plan.proofs.Building.Stored.{number_in}
use Rattle.msrp_plan.proofs.builder.PlanBuilder.is_misnested.Goals as goal

pub returns-in-Lock : goal.returns-in-Lock
returns-in-Lock c =
    let held = numbers c.self.inside.held.items in
    let found = sym (number_in c.self.inside.held.items c.in-Lock.res) ∙ sym c.contains.ensures.value in
    rw (← c.self.view_is, c.in-Lock.is) (improper_lock c.in-Lock.res held c.contains.result found ∙ ap (λ o. is_improper o (Lock c.in-Lock.res)) (sym c.self.invariant.holds))
