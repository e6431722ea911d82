-- The picture of a trace, in the style of a number.
use Rattle.std.specs.Prelude.{◌≡◌}
use Rattle.msrp_plan.specs.Common.{ℕ, List, Option, Some, None, Result, PlanModel, Err}
use Rattle.msrp_view_engine.specs.Answers.{IsDrawingOf}
use Rattle.msrp_view_engine.specs.declared.view.Drawing.TheVariants.{Picture}
use Rattle.msrp_faults.specs.declared.faults.CliFault.{CliFault}
use Rattle.msrp_faults.specs.declared.faults.CliFault.TheVariants.{Usage}
use Rattle.msrp_engine.specs.declared.made.Made.{Made}
use Rattle.msrp_picture.specs.declared.windows.Style.{Style}
use Rattle.msrp_text.specs.declared.reading.TextError.{TextError}
use Rattle.msrp_engine.specs.Answered.{OrUnread}
use Rattle.msrp_c.specs.Numbers.{ticks_asked}

-- the picture of these ticks in that style; if the number names no style, wrong usage for any texts
abbrev pub IsDrawn : Option Style → ℕ → ℕ → Result PlanModel TextError → List (List (List ℕ)) → Result Made CliFault → Type 0
IsDrawn (Some style) from to expected records made = OrUnread made (IsDrawingOf expected records (Picture (ticks_asked style from to)) made)
IsDrawn None from to expected records made = made ≡ Err Usage
