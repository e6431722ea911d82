-- A reader of a plan between two records: what is next, and the plan so far.
use Rattle.msrp_plan.specs.Common.{ℕ, List, Option, Some, None, Ok, Err, codes, is_none, length, empty_plan, PlanModel}
use Rattle.msrp_plan.specs.declared.faults.PlanFault.{PlanFault}
use Rattle.msrp_plan.specs.declared.units.Step.{Step}
use Rattle.std.specs.Prelude.{◌≡◌, ◌⊎◌, ◌&&◌, ◌≤◌, if◌then◌else◌, Result}
use Rattle.msrp_plan.specs.declared.faults.PlanFault.TheVariants.{Memory}
use Rattle.msrp_text.specs.Reading.{Answers, body_fault, cores_fault, lacks_number, number_told, plan_of, step_told, ticks_fault, version_fault, version_told, with_record}
use Rattle.msrp_text.specs.declared.positions.Position.{Position}
use Rattle.msrp_text.specs.declared.positions.Position.TheVariants.{Version, Cores, Ticks, Body}
use Rattle.msrp_text.specs.Fields.{has_word, number_at}
use Rattle.msrp_text.specs.declared.positions.TaskNumbers.{TaskNumbers}
use Rattle.msrp_text.specs.declared.reading.TextError.{TextError}
use Rattle.msrp_text.specs.declared.reading.TextError.TheVariants.{At}
use Rattle.msrp_text.specs.declared.reading.TextError.TheVariants as text
use Rattle.msrp_text.specs.declared.records.Stopped.{Stopped}
use Rattle.msrp_text.specs.declared.records.Stopped.TheVariants as stop
use Rattle.msrp_text.specs.declared.reading.Unread.{Unread}
use Rattle.msrp_text.specs.declared.reading.Unread.TheVariants.{Told, TooMany}

-- the first rule that the next record, or the end, violates at a position
unfoldable pub position_fault : Position → Option (List (List ℕ)) → Option PlanFault
position_fault Version next = version_fault next
position_fault (Cores version) next = cores_fault next
position_fault (Ticks version cores) next = ticks_fault cores next
position_fault (Body version plan) next = body_fault version plan next

-- the position after one more record
unfoldable pub position_with : Position → List (List ℕ) → Position
position_with Version fields = Cores (version_told fields)
position_with (Cores version) fields = Ticks version (number_told fields 1)
position_with (Ticks version cores) fields = Body version (empty_plan cores (number_told fields 1))
position_with (Body version plan) fields = Body version (with_record plan fields)

-- the plan so far
unfoldable pub position_plan : Position → PlanModel
position_plan Version = empty_plan 0 0
position_plan (Cores version) = empty_plan 0 0
position_plan (Ticks version cores) = empty_plan cores 0
position_plan (Body version plan) = plan

-- a record is refused with its position's fault, if any; otherwise taken, unless memory runs out
abbrev pub IsTaken : {A : Type 0} → Option PlanFault → A → Result A PlanFault → Type 0
IsTaken (Some fault) next r = r ≡ Err fault
IsTaken None next r = (r ≡ Err Memory) ⊎ (r ≡ Ok next)

-- the four numbers of a `task` record, if all are there
abbrev pub task_numbers : List (List ℕ) → Option TaskNumbers
task_numbers fields =
    if lacks_number fields then None else Some (record { core = number_told fields 2; period = number_told fields 3; deadline = number_told fields 4; offset = number_told fields 5 })

-- the step of an `op` record, unless it is a run without a number
abbrev pub numbered_step : PlanModel → List (List ℕ) → Option Step
numbered_step plan fields = if has_word fields 1 (codes "run") && is_none (number_at fields 2) then None else Some (step_told plan fields)

-- the refusal of a record by its number; lack of memory refuses none
abbrev pub refusal : PlanFault → ℕ → TextError
refusal Memory number = text.Memory
refusal fault number = At fault number

-- a record of that number is refused with its position's fault if there is one; otherwise it is
-- taken, unless memory runs out
abbrev pub IsTakenAt : {A : Type 0} → Option PlanFault → ℕ → A → Result A TextError → Type 0
IsTakenAt (Some fault) number next r = r ≡ Err (refusal fault number)
IsTakenAt None number next r = (r ≡ Err text.Memory) ⊎ (r ≡ Ok next)

-- why a text is unread after a stopped read
abbrev pub unread_at : Stopped → Unread
unread_at stop.Read = Told text.Read
unread_at stop.Memory = Told text.Memory

-- the number of records that can be numbered
abbrev pub most_records : ℕ
most_records = 4294967294

-- the records give their plan or the answer in its place, unless there are too many to number
abbrev pub ReadsAs : List (List (List ℕ)) → Result PlanModel Unread → Type 0
ReadsAs records (Ok plan) = Answers (Ok plan) (plan_of records)
ReadsAs records (Err (Told error)) = Answers (Err error) (plan_of records)
ReadsAs records (Err TooMany) = most_records ≤ length records
