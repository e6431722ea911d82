use Rattle.std.proofs.Common.{◌∙◌}
use Rattle.msrp_plan.proofs.Common.{sym}
use Rattle.msrp_text.proofs.Fronts.{field-put}
use Rattle.msrp_text.proofs.front.line_to.Goals as goal

pub returns : goal.returns
returns c =
    let put = field-put _ _ _ c.args.text.now c.args.start c.args.at c.in_ok-push_field.ensures.fields c.requires.whole c.requires.start in
    record {
      longer = c.requires.inside;
      within = c.requires.within;
      ended = c.requires.ended;
      plain = c.requires.plain;
      fields = put ∙ sym c.requires.fields;
    }
