-- The numbers by which C names orders, versions, styles and ticks.
use Rattle.std.specs.Prelude.{◌==◌, if◌then◌else◌}
use Rattle.msrp_plan.specs.Common.{ℕ, List, Option, Some, None, ascending, PlanModel}
use Rattle.msrp_plan.specs.declared.rows.TextVersion.{TextVersion}
use Rattle.msrp_plan.specs.declared.rows.TextVersion.TheVariants.{V1, V2}
use Rattle.msrp_picture.specs.declared.windows.Asked.{Asked}
use Rattle.msrp_picture.specs.declared.windows.Style.{Style}
use Rattle.msrp_picture.specs.declared.windows.Style.TheVariants.{Text, Svg}
use Rattle.msrp_sim.specs.Orders.{falling, rotating}

-- the order of the cores' turns in a plan: rising, falling, going round, or the given cores
abbrev pub turns_named : ℕ → List ℕ → Option (PlanModel → List ℕ)
turns_named order cores =
    if order == 0 then Some (λ plan. ascending plan.cores plan.ticks)
    else if order == 1 then Some falling
    else if order == 2 then Some rotating
    else if order == 3 then Some (λ plan. cores)
    else None

-- the version of a trace's text
abbrev pub version_named : ℕ → Option TextVersion
version_named version = if version == 1 then Some V1 else if version == 2 then Some V2 else None

-- the style of a picture
abbrev pub style_named : ℕ → Option Style
style_named style = if style == 0 then Some Text else if style == 1 then Some Svg else None

-- the requested ticks, from the first to before the last; 0 requests no last one
abbrev pub ticks_asked : Style → ℕ → ℕ → Asked
ticks_asked style from to = record { style = style; from = Some from; to = if to == 0 then None else Some to }
