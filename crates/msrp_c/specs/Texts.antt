-- The texts made of a plan's text.
use Rattle.std.specs.Prelude.{◌≡◌, ◌⊎◌}
use Rattle.msrp_plan.specs.Common.{ℕ, List, Option, Some, None, Result, PlanModel, IsOrder, Ok, Err}
use Rattle.msrp_plan.specs.declared.rows.Row.{Row}
use Rattle.msrp_plan.specs.declared.rows.TextVersion.{TextVersion}
use Rattle.msrp_faults.specs.Outcomes.{fault_of}
use Rattle.msrp_faults.specs.declared.faults.CliFault.{CliFault}
use Rattle.msrp_faults.specs.declared.faults.CliFault.TheVariants.{Usage, Memory, Read}
use Rattle.msrp_engine.specs.declared.made.Made.{Made}
use Rattle.msrp_sim.specs.Simulated.{IsRunIn}
use Rattle.msrp_text.specs.declared.reading.TextError.{TextError}
use Rattle.msrp_trace.specs.TraceText.{trace_text}

-- such a text was made, with nothing wrong; or a read failed, memory ran out, or this is why
abbrev pub Makes : (List ℕ → Type 0) → (CliFault → Type 0) → Result Made CliFault → Type 0
Makes IsText IsWhy (Ok made) = IsText made.text.items × (made.found ≡ Ok tt)
Makes IsText IsWhy (Err fault) = (fault ≡ Read) ⊎ (fault ≡ Memory) ⊎ IsWhy fault

-- ---- runs
-- the text of the trace of a whole run of the plan in this order of it
pub record IsRunText (version : TextVersion) (plan : PlanModel) (order : List ℕ) (text : List ℕ) : Type 0 where
  pub is_order : IsOrder plan order
  pub rows : List Row
  pub run : IsRunIn plan order rows
  pub text_is : text ≡ trace_text version plan rows

-- such a text of a plan; a refused one has none
abbrev pub IsRunOf : TextVersion → (PlanModel → List ℕ) → Result PlanModel TextError → List ℕ → Type 0
IsRunOf version order (Ok plan) text = IsRunText version plan (order plan) text
IsRunOf version order (Err error) text = ⊥

-- there is none if the turns aren't an order of the plan, or the plan is refused
abbrev pub WhyNoRun : (PlanModel → List ℕ) → Result PlanModel TextError → CliFault → Type 0
WhyNoRun order (Ok plan) fault = (¬ IsOrder plan (order plan)) × (fault ≡ Usage)
WhyNoRun order (Err error) fault = fault ≡ fault_of error

-- the text of the run in the order and version of two numbers; wrong usage if one names nothing
abbrev pub IsSimulated : Option TextVersion → Option (PlanModel → List ℕ) → Result PlanModel TextError → Result Made CliFault → Type 0
IsSimulated (Some version) (Some order) expected made = Makes (IsRunOf version order expected) (WhyNoRun order expected) made
IsSimulated None order expected made = made ≡ Err Usage
IsSimulated (Some version) None expected made = made ≡ Err Usage
