-- The texts of a plan.
use Rattle.msrp_plan.specs.Common.{ℕ, List, PlanModel}
use Rattle.msrp_text.specs.PlanText.{plan_text}
use Rattle.msrp_engine.specs.CheckText.{check_text}
use Rattle.msrp_engine.specs.declared.texts.PlanText.{PlanText}
use Rattle.msrp_engine.specs.declared.texts.PlanText.TheVariants.{Own, Levels}

-- the requested text
abbrev pub text_of : PlanText → PlanModel → List ℕ
text_of Own = plan_text
text_of Levels = check_text
