-- The stored texts of the cores' rows.
use Rattle.std.specs.Prelude.{◌%◌}
use Rattle.msrp_plan.specs.Common.{ℕ, List, [], slice_index_or, map, All, PlanModel}
use Rattle.msrp_plan.specs.declared.rows.TextVersion.{TextVersion}
use Rattle.msrp_trace.specs.Lines.{AreResTexts, IsCoreText}
use Rattle.msrp_trace.specs.declared.line.CoreText.{CoreText}
use Rattle.msrp_trace.specs.declared.texts.RowTexts.TheInside.{Inside}

-- the plan and the version, and for each core its record after the tick
pub record TextsModel : Type 0 where
  pub plan : PlanModel
  pub version : TextVersion
  pub texts : List (List ℕ)

-- a core's record after the tick
abbrev pub text_of_core : TextsModel → ℕ → List ℕ
text_of_core texts core = slice_index_or texts.texts (core % 8) []

-- the stored records, one for each core
abbrev pub texts_of : List CoreText → List (List ℕ)
texts_of lines = map (λ kept. kept.line) lines

abbrev pub texts_view : Inside → TextsModel
texts_view t = record { plan = t.plan.now; version = t.version; texts = texts_of t.lines }

-- the parts of the texts are right, for each core and each resource
pub record AreTextsView (t : Inside) : Type 0 where
  pub lines : All (IsCoreText t.plan.now) t.lines
  pub res : AreResTexts t.plan.now t.res
