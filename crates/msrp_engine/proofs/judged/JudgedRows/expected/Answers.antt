use Rattle.std.proofs.Common.{◌≡◌, ◌∙◌}
use Rattle.msrp_plan.proofs.Common.{IfSome, in_tick, subst, sym}
use Rattle.msrp_trace.specs.Texts.{text_of_core}
use Rattle.msrp_engine.specs.Inside.Kept.{row_of_core}
use Rattle.msrp_engine.proofs.KeptTexts.{expected_kept}
use Rattle.msrp_engine.proofs.judged.JudgedRows.expected.Goals as goal

pub returns-clause-kept : goal.returns-clause-kept
returns-clause-kept g c =
    let j = c.args.self.now in
    let k = c.args.core.0 in
    let row = subst (λ o. IfSome o (λ last. c.in_tick.result ≡ in_tick c.args.tick last)) (sym c.in-Some.is ∙ c.kept_row.ensures) c.in_tick.ensures in
    expected_kept j.rows.version j.auditor.plan j.auditor.cores (text_of_core j.texts k) k c.args.tick c.in_tick.result (row_of_core j.lasts k) c.requires.kept row (j.kept k c.requires.core)
