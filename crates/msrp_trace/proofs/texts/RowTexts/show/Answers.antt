use Rattle.std.proofs.Common.{◌≡◌, ◌∙◌}
use Rattle.msrp_plan.proofs.Common.{sym, subst, refl}
use Rattle.msrp_trace.specs.Gathering.{after_tick}
use Rattle.msrp_trace.specs.Texts.{TextsModel, text_of_core, texts_view}
use Rattle.msrp_trace.specs.declared.texts.RowTexts.TheInside.{Inside}
use Rattle.msrp_trace.proofs.Shown.{line_text, no_text}
use Rattle.msrp_trace.proofs.texts.RowTexts.show.Goals as goal

pub returns-clause-here : goal.returns-clause-here
returns-clause-here c =
    let new : Inside = record { plan = c.self.inside.plan; version = c.self.inside.version; lines = c.make_text.new.lines; res = c.make_text.new.res } in
    subst (λ (t : TextsModel). text_of_core (texts_view new) c.args.row.now.core.0 ≡ after_tick t.version t.plan c.args.row.now) c.self.view_is
    (sym (line_text (texts_view new) new c.args.row.now.core.0 refl) ∙ c.make_text.ensures.text no_text)
