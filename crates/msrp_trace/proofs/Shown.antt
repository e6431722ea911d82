-- The texts that are kept of the cores' rows.
use Rattle.std.proofs.Common.{◌≡◌, ◌%◌, ◌∙◌}
use Rattle.msrp_plan.proofs.Common.{ℕ, [], None, sym, ap, slice_index_or}
use Rattle.std.proofs.Math.ListN.{get_or-map}
use Rattle.msrp_trace.specs.Texts.{TextsModel, text_of_core, texts_view}
use Rattle.msrp_trace.specs.declared.line.CoreText.{CoreText}
use Rattle.msrp_trace.specs.declared.line.RowLine.{RowLine}
use Rattle.msrp_trace.specs.declared.texts.RowTexts.TheInside.{Inside}

-- where nothing is kept
abbrev pub no_text : CoreText
no_text = record { line = []; job = record { job = None; text = [] } }

abbrev pub no_line : RowLine
no_line = record { row = None; text = no_text }

-- the line of a core is its text
pub line_text : (texts : TextsModel) (t : Inside) (core : ℕ) → texts_view t ≡ texts → (slice_index_or t.lines (core % 8) no_text).line ≡ text_of_core texts core
line_text texts t core e = sym (get_or-map (λ (kept : CoreText). kept.line) t.lines (core % 8) no_text) ∙ ap (λ (w : TextsModel). text_of_core w core) e
