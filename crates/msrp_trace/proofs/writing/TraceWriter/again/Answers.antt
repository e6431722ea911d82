use Rattle.std.proofs.Common.{◌++◌, ◌∙◌}
use Rattle.msrp_plan.proofs.Common.{ℕ, List, ap, decimal, subst}
use Rattle.msrp_trace.specs.Gathering.{Gathers, WriterModel}
use Rattle.msrp_trace.specs.Texts.{TextsModel, text_of_core}
use Rattle.msrp_trace.proofs.Gathered.{gathers-as}
use Rattle.msrp_trace.proofs.writing.TraceWriter.again.Goals as goal

pub returns-clause-text : goal.returns-clause-text
returns-clause-text g c =
    let text = c.text_of-line.ensures ∙ ap (λ (t : TextsModel). text_of_core t c.args.core.0) c.texts.view_is in
    let tick = rw c.show.ensures at (rw c.text.ensures at c.add_both.ensures) in
    subst (λ (w : WriterModel). Gathers g.W.Write.contents w.text c.args.out.now c.add_both.new.self c.add_both.new.out (decimal c.args.tick ++ text_of_core c.args.texts.now c.args.core.0)) c.self.view_is
    (gathers-as _ _ _ _ _ _ _ (ap (λ (t : List ℕ). decimal c.args.tick ++ t) text) tick)
