use Rattle.std.proofs.Common.{◌∙◌}
use Rattle.msrp_plan.proofs.Common.{ap, sym, get_or_read}
use Rattle.std.proofs.Math.ListN.{get_or-map}
use Rattle.msrp_trace.specs.declared.line.CoreText.{CoreText}
use Rattle.msrp_trace.proofs.Shown.{no_text}
use Rattle.msrp_trace.proofs.texts.text_of.Goals as goal

pub returns : goal.returns
returns c =
    let at = get_or_read c.args.lines.now c.args.core c.index-lines-core.result c.requires c.index-lines-core.is no_text in
    (c.text.ensures ∙ ap (λ (kept : CoreText). kept.line) at) ∙ sym (get_or-map (λ (kept : CoreText). kept.line) c.args.lines.now c.args.core no_text)
