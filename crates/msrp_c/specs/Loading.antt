-- A loaded plan, or why there is none.
use Rattle.std.specs.Prelude.{◌≡◌}
use Rattle.msrp_plan.specs.Common.{Result, PlanModel, Ok, Err}
use Rattle.msrp_faults.specs.Outcomes.{fault_of}
use Rattle.msrp_faults.specs.declared.faults.CliFault.{CliFault}
use Rattle.msrp_text.specs.declared.reading.TextError.{TextError}
use Rattle.msrp_c.specs.declared.held.Loaded.{Loaded}

-- the plan of the text is loaded, or the text is refused, and the fault says why
abbrev pub IsLoaded : Result PlanModel TextError → Result Loaded CliFault → Type 0
IsLoaded (Ok plan) (Ok loaded) = loaded.plan.now ≡ plan
IsLoaded (Err error) (Err fault) = fault ≡ fault_of error
IsLoaded (Ok plan) (Err fault) = ⊥
IsLoaded (Err error) (Ok loaded) = ⊥
