-- The codes of refusals: R1 to R8.
use Rattle.msrp_plan.specs.Common.{ℕ}
use Rattle.msrp_trace.specs.declared.faults.TraceFault.{TraceFault}
use Rattle.msrp_trace.specs.declared.faults.TraceFault.TheVariants.{Head, FieldCount, Number, Kind, Name, Shape, Read, Memory}

-- the number after R of a refused trace's code
abbrev pub code_of : TraceFault → ℕ
code_of Head = 1
code_of FieldCount = 2
code_of Number = 3
code_of Kind = 4
code_of Name = 5
code_of Shape = 6
code_of Read = 7
code_of Memory = 8
