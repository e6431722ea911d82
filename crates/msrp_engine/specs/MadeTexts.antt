-- The verdict on the rows of a text.
use Rattle.msrp_plan.specs.Common.{⊤, Result, Ok, Err}
use Rattle.msrp_plan.specs.declared.faults.Fault.{Fault}
use Rattle.msrp_faults.specs.declared.faults.CliFault.{CliFault}
use Rattle.msrp_engine.specs.declared.made.Made.{Made}

-- the verdict that comes with a text, or the fault in place of both
abbrev pub found_in : Result Made CliFault → Result (Result ⊤ Fault) CliFault
found_in (Ok made) = Ok made.found
found_in (Err fault) = Err fault
