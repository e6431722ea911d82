use Rattle.std.proofs.Common.{◌∙◌}
use Rattle.msrp_plan.proofs.Common.{ℕ, List, ap, set}
use Rattle.std.proofs.lemmas.List.{map-set}
use Rattle.msrp_trace.specs.Texts.{texts_of}
use Rattle.msrp_trace.specs.declared.line.CoreText.{CoreText}
use Rattle.msrp_trace.proofs.texts.make_text.Goals as goal

pub returns-clause-texts : goal.returns-clause-texts
returns-clause-texts c =
    map-set (λ (kept : CoreText). kept.line) c.args.lines.now c.args.core c.make.new.self ∙ ap (λ (text : List ℕ). set (texts_of c.args.lines.now) c.args.core text) c.make.ensures.text
