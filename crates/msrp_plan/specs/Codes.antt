-- The codes of refusals: P1 to P16.
use Rattle.std.specs.Prelude.{ℕ}
use Rattle.msrp_plan.specs.declared.faults.PlanFault.{PlanFault}
use Rattle.msrp_plan.specs.declared.faults.PlanFault.TheVariants.{Version, OutOfPlace, FieldCount, Number, Name, Taken, Limit, Undeclared, Core, Nesting, NestedGlobal, NoUnit, Jobs, Releases, Read, Memory}

-- the number after P of a refused plan's code
abbrev pub code_of : PlanFault → ℕ
code_of Version = 1
code_of OutOfPlace = 2
code_of FieldCount = 3
code_of Number = 4
code_of Name = 5
code_of Taken = 6
code_of Limit = 7
code_of Undeclared = 8
code_of Core = 9
code_of Nesting = 10
code_of NestedGlobal = 11
code_of NoUnit = 12
code_of Jobs = 13
code_of Releases = 14
code_of Read = 15
code_of Memory = 16
