-- The rows of a trace's text, gathered before they are judged, and the finding on them.
use Rattle.std.specs.Prelude.{◌≡◌, ◌⊎◌, ◌≤◌, if◌then◌else◌, ◌++◌}
use Rattle.msrp_plan.specs.Common.{ℕ, Bool, true, false, ⊤, List, [], None, Some, length, option_map, Result, Ok, Err}
use Rattle.msrp_plan.specs.declared.faults.Fault.{Fault}
use Rattle.msrp_plan.specs.declared.faults.Rule.{Rule}
use Rattle.msrp_plan.specs.declared.faults.Rule.TheVariants.{A6}
use Rattle.msrp_plan.specs.declared.rows.Row.{Row}
use Rattle.msrp_trace.specs.Reading.{Told}
use Rattle.msrp_faults.specs.Outcomes.{trace_fault_of}
use Rattle.msrp_faults.specs.declared.faults.CliFault.{CliFault}
use Rattle.msrp_faults.specs.declared.faults.CliFault.TheVariants.{Read}
use Rattle.msrp_faults.specs.declared.faults.CliFault.TheVariants as cli

-- why no later row was gathered: there are as many as requested, or none is left; otherwise a read
-- failed, memory ran out, or the next record is refused
abbrev pub EndsBy : ℕ → Told → List Row → List Row → Result ⊤ CliFault → Type 0
EndsBy most told rows rest (Ok done) = (most ≤ length rows) ⊎ ((rest ≡ []) × (told.refusal ≡ None))
EndsBy most told rows rest (Err fault) = (fault ≡ Read) ⊎ (fault ≡ cli.Memory) ⊎ ((rest ≡ []) × (option_map trace_fault_of told.refusal ≡ Some fault))

-- these rows are the first of all rows
pub record IsGathered (most : ℕ) (told : Told) (rows : List Row) (ended : Result ⊤ CliFault) : Type 0 where
  pub rest : List Row
  pub whole : told.rows ≡ rows ++ rest
  pub end : EndsBy most told rows rest ended

-- the rule of a missing row
abbrev pub is_missing : Rule → Bool
is_missing A6 = true
is_missing _ = false

-- the finding on rows with this verdict: if a fault ended the reading, no row counts as missing
abbrev pub found_in : Result ⊤ Fault → Result ⊤ CliFault → Result (Result ⊤ Fault) CliFault
found_in judged (Ok done) = Ok judged
found_in (Ok good) (Err fault) = Err fault
found_in (Err found) (Err fault) = if is_missing found.rule then Err fault else Ok (Err found)
