-- Rows as numbers, and the verdict on them.
use Rattle.std.specs.Prelude.{◌+◌, ◌==◌, if◌then◌else◌}
use Rattle.msrp_plan.specs.Common.{ℕ, Bool, List, Option, Some, None, option_map, slice_get, map, ⊤, filter_map, prefix_len, option_and_then, Result, PlanModel, fault_in, verdict, Ok, Err}
use Rattle.msrp_plan.specs.declared.faults.Fault.{Fault}
use Rattle.msrp_plan.specs.declared.ids.JobId.{JobId}
use Rattle.msrp_plan.specs.declared.rows.Kind.{Kind}
use Rattle.msrp_plan.specs.declared.rows.Kind.TheVariants.{Idle, Run, Lock, Unlock, Take, Queue, Spin, Grant, Release}
use Rattle.msrp_plan.specs.declared.rows.Row.{Row}
use Rattle.std.specs.List.{find, take_while}
use Rattle.std.specs.Result.{is_ok, result_ok}
use Rattle.msrp_engine.specs.Findings.{found_first}
use Rattle.msrp_faults.specs.Outcomes.{fault_of}
use Rattle.msrp_faults.specs.declared.faults.CliFault.{CliFault}
use Rattle.msrp_text.specs.declared.reading.TextError.{TextError}
use Rattle.msrp_trace.specs.Reading.{Told}
use Rattle.msrp_trace.specs.Rows.{kinds, row_with}
use Rattle.msrp_trace.specs.TraceText.{is_named}
use Rattle.msrp_trace.specs.declared.faults.TraceError.{TraceError}
use Rattle.msrp_trace.specs.declared.faults.TraceError.TheVariants.{At}
use Rattle.msrp_trace.specs.declared.faults.TraceFault.{TraceFault}
use Rattle.msrp_trace.specs.declared.faults.TraceFault.TheVariants.{Kind as UnknownKind, Name, Shape}
use Rattle.msrp_c.specs.declared.turns.MsrpRow.{MsrpRow}

-- ---- the parts of a row
-- the greatest number means that there is none
abbrev pub none_number : ℕ
none_number = 4294967295

-- a number that may be missing
abbrev pub numbered : ℕ → Option ℕ
numbered number = if number == none_number then None else Some number

-- the number of a kind
abbrev pub kind_number : Kind → ℕ
kind_number Idle = 0
kind_number Run = 1
kind_number Lock = 2
kind_number Unlock = 3
kind_number Take = 4
kind_number Queue = 5
kind_number Spin = 6
kind_number Grant = 7
kind_number Release = 8

-- the kind of this number
abbrev pub kind_numbered : ℕ → Option Kind
kind_numbered number = find (λ kind. number == kind_number kind) kinds

-- the job of a task and a number: a row has both or neither
abbrev pub job_numbered : Option ℕ → Option ℕ → Option (Option JobId)
job_numbered None None = Some None
job_numbered (Some task) (Some k) = Some (Some (record { task = record { 0 = task }; k = k }))
job_numbered _ _ = None

-- ---- a row
-- the row of these numbers, if a row of its kind may have them
abbrev pub shaped_row : MsrpRow → Kind → Option (Option JobId) → Option Row
shaped_row turn kind None = None
shaped_row turn kind (Some job) = row_with turn.tick turn.core kind job (option_map (λ g. record { 0 = g }) (numbered turn.resource)) (numbered turn.ahead)

-- the row, if there is one and it names what the plan has
abbrev pub named_row : PlanModel → Option Row → Result Row TraceFault
named_row plan None = Err Shape
named_row plan (Some r) = if is_named plan r then Ok r else Err Name

-- the row of the numbers, if they have a kind
abbrev pub row_of_kind : PlanModel → MsrpRow → Option Kind → Result Row TraceFault
row_of_kind plan turn None = Err UnknownKind
row_of_kind plan turn (Some kind) = named_row plan (shaped_row turn kind (job_numbered (numbered turn.task) (numbered turn.job)))

-- the row of the numbers, or why they aren't one, in the order of the checks
abbrev pub row_of : PlanModel → MsrpRow → Result Row TraceFault
row_of plan turn = row_of_kind plan turn (kind_numbered turn.kind)

-- ---- rows
abbrev pub refusal_at : ℕ → Result Row TraceFault → Option TraceError
refusal_at number (Ok r) = None
refusal_at number (Err fault) = Some (At fault number)

-- the rows before the first that isn't one, and why it isn't, with its number, counted from 1
unfoldable pub told_in : List (Result Row TraceFault) → Told
told_in turns = record {
  rows = filter_map result_ok (take_while is_ok turns);
  refusal = option_and_then (refusal_at (prefix_len is_ok turns + 1)) (slice_get turns (prefix_len is_ok turns));
}

-- ---- what is found in them
-- a fault of the rows, otherwise the refusal, otherwise the verdict on a whole trace; for rows so
-- far missing ones are no fault
abbrev pub finding_in : Bool → PlanModel → Told → Result (Result ⊤ Fault) CliFault
finding_in so_far plan told = found_first (fault_in plan told.rows) told.refusal (if so_far then None else verdict plan told.rows)

-- a refused plan has its refusal with any rows
abbrev pub finding_of_turns : Bool → Result PlanModel TextError → List MsrpRow → Result (Result ⊤ Fault) CliFault
finding_of_turns so_far (Ok plan) turns = finding_in so_far plan (told_in (map (row_of plan) turns))
finding_of_turns so_far (Err error) turns = Err (fault_of error)
