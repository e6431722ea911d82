-- How units are written one by one: units of work wait until a lock or an unlock, or the end.
use Rattle.std.specs.Prelude.{◌∷◌, ◌++◌, ◌==◌, ◌<◌, ◌+◌, if◌then◌else◌}
use Rattle.msrp_plan.specs.Common.{ℕ, List, [], length, map, ⊤, PlanModel}
use Rattle.msrp_plan.specs.declared.units.Op.{Op}
use Rattle.msrp_plan.specs.declared.units.Step.{Step}
use Rattle.msrp_plan.specs.declared.units.Op.TheVariants as unit
use Rattle.msrp_plan.specs.declared.units.Step.TheVariants.{Run, Lock, Unlock}
use Rattle.msrp_text.specs.PlanText.{records_text, step_record}

-- the text of some steps
abbrev pub steps_text : PlanModel → List Step → List ℕ
steps_text plan steps = records_text (map (step_record plan) steps)

-- n units of work
abbrev pub run_steps : ℕ → List Step
run_steps n = if n == 0 then [] else Run n ∷ []

-- what is written at a unit, and the number of units of work that wait after it
abbrev pub steps_before : ℕ → Op → List Step
steps_before run unit.Run = []
steps_before run (unit.Lock g) = run_steps run ++ Lock g ∷ []
steps_before run (unit.Unlock g) = run_steps run ++ Unlock g ∷ []

abbrev pub run_after : ℕ → Op → ℕ
run_after run unit.Run = run + 1
run_after run (unit.Lock g) = 0
run_after run (unit.Unlock g) = 0

-- a unit names a resource of the plan
abbrev pub IsNamedUnit : PlanModel → Op → Type 0
IsNamedUnit plan unit.Run = ⊤
IsNamedUnit plan (unit.Lock g) = g.0 < length plan.resources
IsNamedUnit plan (unit.Unlock g) = g.0 < length plan.resources
