-- The verdict on any rows: the first row that violates a rule, with the lowest rule violated.
use Rattle.std.specs.Prelude.{ℕ, List, [], ◌∷◌, ◌++◌, Option, Some, None, if◌then◌else◌, nat_lt, length, ◌+◌, ◌*◌}
use Rattle.std.specs.Option.{option_or}
use Rattle.msrp_plan.specs.Plan.{PlanModel}
use Rattle.msrp_plan.specs.Runs.{is_in_turn, is_of_core, is_chosen, is_next_action, is_fifo_reply}
use Rattle.msrp_plan.specs.declared.faults.Fault.{Fault}
use Rattle.msrp_plan.specs.declared.faults.Rule.{Rule}
use Rattle.msrp_plan.specs.declared.faults.Rule.TheVariants.{A1, A2, A3, A4, A5, A6, A7}
use Rattle.msrp_plan.specs.declared.rows.Row.{Row}

-- the lowest rule that the row violates after these rows
abbrev pub broken : PlanModel → List Row → Row → Option Rule
broken plan pre r =
    if is_in_turn plan pre r then (
    if is_of_core plan r then (
    if is_chosen plan pre r then (
    if is_next_action plan pre r then (
    if is_fifo_reply pre r then None else Some A5) else Some A4) else Some A3) else Some A2) else Some A1

-- the fault of the n-th row, if it violates a rule, and otherwise what comes later
abbrev pub fault_or : Option Rule → ℕ → Option Fault → Option Fault
fault_or None n later = later
fault_or (Some rule) n later = Some (record { row = n; rule = rule })

-- why a row is refused after these: the lowest rule that it violates, or that it is one too many
abbrev pub refused : PlanModel → List Row → Row → Option Rule
refused plan pre r = if nat_lt (length pre) (plan.cores * plan.ticks) then broken plan pre r else Some A7

-- the first refused row after pre; rows are counted from 1
abbrev pub fault_from : PlanModel → List Row → List Row → Option Fault
fault_from plan pre [] = None
fault_from plan pre (r ∷ rows) = fault_or (refused plan pre r) (length pre + 1) (fault_from plan (pre ++ r ∷ []) rows)

-- the first refused row, with the rule: A1 to A5, or A7. Missing rows are no fault yet
abbrev pub fault_in : PlanModel → List Row → Option Fault
fault_in plan rows = fault_from plan [] rows

-- the first row that is missing
abbrev pub missing : PlanModel → List Row → Option Fault
missing plan rows = if nat_lt (length rows) (plan.cores * plan.ticks) then Some (record { row = length rows + 1; rule = A6 }) else None

-- the fault of the rows so far, otherwise the first missing row; none exactly for the legal runs
abbrev pub verdict : PlanModel → List Row → Option Fault
verdict plan rows = option_or (fault_in plan rows) (missing plan rows)
