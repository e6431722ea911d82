use Rattle.std.proofs.Common.{◌∙◌}
use Rattle.msrp_plan.proofs.Common.{ap, sym, map, name_position, PlanModel}
use Rattle.std.specs.Prelude.{string_bytes}
use Rattle.msrp_system.proofs.NamedParts.{res_named}
use Rattle.msrp_system.proofs.parts.Parts.res_of.Goals as goal

pub returns-in-Some : goal.returns-in-Some
returns-in-Some c =
    sym c.in-Some.is ∙ (c.res_place.ensures ∙ (res_named c.deref.result.now c.args.name.now
    ∙ (ap (λ rs. name_position (map string_bytes rs) c.args.name.now) c.deref.ensures.value
    ∙ ap (λ (p : PlanModel). name_position p.resources c.args.name.now) c.self.view_is)))

pub returns-in-None : goal.returns-in-None
returns-in-None c =
    sym c.in-None.is ∙ (c.res_place.ensures ∙ (res_named c.deref.result.now c.args.name.now
    ∙ (ap (λ rs. name_position (map string_bytes rs) c.args.name.now) c.deref.ensures.value
    ∙ ap (λ (p : PlanModel). name_position p.resources c.args.name.now) c.self.view_is)))
