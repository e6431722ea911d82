use Rattle.std.proofs.Common.{◌∙◌}
use Rattle.msrp_plan.proofs.Common.{Some, ap, take, Decides-eqb}
use Rattle.std.proofs.lemmas.Slice.Eq.{strip_prefix_is}
use Rattle.msrp_text.specs.Reading.{resource_told}
use Rattle.msrp_text.proofs.UsualLines.{behind}
use Rattle.msrp_text.proofs.usual.resource_behind.Goals as goal

pub returns : goal.returns
returns c =
    let rest = c.in_ok-rest.rest in
    let field = c.in_ok-field.field in
    let first = strip_prefix_is Decides-eqb c.args.text.now c.args.front.now (Some rest) c.in_ok-rest.ensures.cases in
    (take field.length rest.now, behind c.args.text.now c.args.front.now rest.now field first c.in_ok-field.ensures, c.resource_told-res.ensures ∙ ap (resource_told c.args.builder.now) c.text_of.ensures)
