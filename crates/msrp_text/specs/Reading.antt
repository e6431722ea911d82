-- The plan of a list of records, or their first refusal.
use Rattle.msrp_plan.specs.Common.{ℕ, Bool, not, List, [], length, Option, Some, None, Ok, Err, codes, drop, fold, is_none, nat_le, option_map, slice_get, slice_index_or, take, unwrap_or, filter_map, range_with_len, empty_plan, finish_fault, is_within, new_fault, new_task, op_fault, release_fault, resource_fault, takes_releases, task_fault, units_of, with_release, with_resource, with_task, with_units, name_position, PlanModel, TaskModel, Every, Listed, most_cores}
use Rattle.msrp_plan.specs.declared.faults.PlanFault.{PlanFault}
use Rattle.msrp_plan.specs.declared.faults.PlanFault.TheVariants.{Limit}
use Rattle.msrp_plan.specs.declared.ids.ResId.{ResId}
use Rattle.msrp_plan.specs.declared.rows.TextVersion.{TextVersion}
use Rattle.msrp_plan.specs.declared.rows.TextVersion.TheVariants.{V1, V2}
use Rattle.msrp_plan.specs.declared.units.Step.{Step}
use Rattle.std.specs.Prelude.{◌∷◌, ◌≡◌, ◌⊎◌, ◌+◌, ◌==◌, ◌&&◌, ◌||◌, if◌then◌else◌, Result}
use Rattle.msrp_plan.specs.Building.{fault_if}
use Rattle.msrp_plan.specs.declared.faults.PlanFault.TheVariants.{Version, OutOfPlace, FieldCount, Number}
use Rattle.msrp_plan.specs.declared.units.Step.TheVariants.{Run, Lock, Unlock}
use Rattle.msrp_text.specs.Fields.{has_word, name_at, number_at}
use Rattle.msrp_text.specs.declared.reading.TextError.{TextError}
use Rattle.msrp_text.specs.declared.reading.TextError.TheVariants.{At, Read, Memory}
pub use Rattle.msrp_text.specs.Records.{csv_records}

-- the number in a record's field
abbrev pub number_told : List (List ℕ) → ℕ → ℕ
number_told fields i = unwrap_or (number_at fields i) 0

-- the task of a `task` record: name, core, period, relative deadline, offset, and no unit yet
abbrev pub task_told : List (List ℕ) → TaskModel
task_told fields = new_task (name_at fields 1) (number_told fields 2) (Every (number_told fields 3) (number_told fields 5)) (number_told fields 4)

-- the task of a `listed` record: name, core and relative deadline, and no release or unit yet
abbrev pub listed_told : List (List ℕ) → TaskModel
listed_told fields = new_task (name_at fields 1) (number_told fields 2) (Listed []) (number_told fields 3)

-- the number of an undeclared resource: the greatest of 32 bits
abbrev pub undeclared : ℕ
undeclared = 4294967295

-- the resource of a name
abbrev pub resource_told : PlanModel → List ℕ → ResId
resource_told plan name = record { 0 = unwrap_or (name_position plan.resources name) undeclared }

-- the units of an `op` record: a run of work, a lock or an unlock
abbrev pub step_told : PlanModel → List (List ℕ) → Step
step_told plan fields =
    if has_word fields 1 (codes "run") then Run (number_told fields 2)
    else if has_word fields 1 (codes "lock") then Lock (resource_told plan (name_at fields 2))
    else Unlock (resource_told plan (name_at fields 2))

-- a plan with a record of release lists: a new task, or a release of the newest one
abbrev pub with_list_record : PlanModel → List (List ℕ) → PlanModel
with_list_record plan fields =
    if has_word fields 0 (codes "listed") then with_task plan (listed_told fields)
    else if has_word fields 0 (codes "release") then with_release plan (number_told fields 1)
    else plan

-- a plan with one more record: a resource, a new task, or units or a release of the newest one
abbrev pub with_record : PlanModel → List (List ℕ) → PlanModel
with_record plan fields =
    if has_word fields 0 (codes "resource") then with_resource plan (name_at fields 1)
    else if has_word fields 0 (codes "task") then with_task plan (task_told fields)
    else if has_word fields 0 (codes "op") then with_units plan (units_of (step_told plan fields))
    else with_list_record plan fields

-- the record at an index, from 0; one that isn't there has no field
abbrev pub record_at : List (List (List ℕ)) → ℕ → List (List ℕ)
record_at records n = slice_index_or records n []

-- the plan of records: the cores in the second, the ticks in the third, then the resources, then
-- the tasks with their releases and units
unfoldable pub plan_told : List (List (List ℕ)) → PlanModel
plan_told records = fold with_record (empty_plan (number_told (record_at records 1) 1) (number_told (record_at records 2) 1)) (drop 3 records)

-- the first record is the version, `msrp,1` or `msrp,2`
abbrev pub is_version : List (List ℕ) → Bool
is_version fields = (length fields == 2) && has_word fields 0 (codes "msrp") && (has_word fields 1 (codes "1") || has_word fields 1 (codes "2"))

-- the version in a first record
abbrev pub version_told : List (List ℕ) → TextVersion
version_told fields = if has_word fields 1 (codes "2") then V2 else V1

-- only the version may be first
abbrev pub version_fault : Option (List (List ℕ)) → Option PlanFault
version_fault None = Some Version
version_fault (Some fields) = fault_if (not (is_version fields)) Version None

-- the second record is `cores,M`, with 1 to 8 cores
abbrev pub cores_fault : Option (List (List ℕ)) → Option PlanFault
cores_fault None = Some OutOfPlace
cores_fault (Some fields) =
    fault_if (not (has_word fields 0 (codes "cores"))) OutOfPlace (
    fault_if (not (length fields == 2)) FieldCount (
    fault_if (is_none (number_at fields 1)) Number (
    fault_if (not (is_within 1 most_cores (number_told fields 1))) Limit None)))

-- the third record is `ticks,H`, which begins the plan
abbrev pub ticks_fault : ℕ → Option (List (List ℕ)) → Option PlanFault
ticks_fault cores None = Some OutOfPlace
ticks_fault cores (Some fields) =
    fault_if (not (has_word fields 0 (codes "ticks"))) OutOfPlace (
    fault_if (not (length fields == 2)) FieldCount (
    fault_if (is_none (number_at fields 1)) Number (
    new_fault cores (number_told fields 1))))

-- `resource,NAME`, before the first task
abbrev pub resource_record_fault : PlanModel → List (List ℕ) → Option PlanFault
resource_record_fault plan fields =
    fault_if (not (length plan.tasks == 0)) OutOfPlace (
    fault_if (not (length fields == 2)) FieldCount (
    resource_fault plan (name_at fields 1)))

-- one of the four numbers of a `task` record isn't a number
abbrev pub lacks_number : List (List ℕ) → Bool
lacks_number fields = is_none (number_at fields 2) || (is_none (number_at fields 3) || (is_none (number_at fields 4) || is_none (number_at fields 5)))

-- `task,NAME,CORE,PERIOD,DEADLINE,OFFSET`
abbrev pub task_record_fault : PlanModel → List (List ℕ) → Option PlanFault
task_record_fault plan fields =
    fault_if (not (length fields == 6)) FieldCount (
    fault_if (lacks_number fields) Number (
    task_fault plan (task_told fields)))

-- `op,run,N`, `op,lock,NAME` or `op,unlock,NAME`
abbrev pub is_lock_word : List (List ℕ) → Bool
is_lock_word fields = has_word fields 1 (codes "lock") || has_word fields 1 (codes "unlock")

-- the second field is the word of a step
abbrev pub is_op_word : List (List ℕ) → Bool
is_op_word fields = has_word fields 1 (codes "run") || is_lock_word fields

-- the first fault of a record of a step, in the order of the checks
abbrev pub op_record_fault : PlanModel → List (List ℕ) → Option PlanFault
op_record_fault plan fields =
    fault_if (length plan.tasks == 0) OutOfPlace (
    fault_if (nat_le (length fields) 1) FieldCount (
    fault_if (not (is_op_word fields)) OutOfPlace (
    fault_if (not (length fields == 3)) FieldCount (
    fault_if (has_word fields 1 (codes "run") && is_none (number_at fields 2)) Number (
    op_fault plan (step_told plan fields))))))

-- `listed,NAME,CORE,DEADLINE`
abbrev pub listed_record_fault : PlanModel → List (List ℕ) → Option PlanFault
listed_record_fault plan fields =
    fault_if (not (length fields == 4)) FieldCount (
    fault_if (is_none (number_at fields 2) || is_none (number_at fields 3)) Number (
    task_fault plan (listed_told fields)))

-- `release,TICK`, directly after `listed` or another `release`
abbrev pub release_record_fault : PlanModel → List (List ℕ) → Option PlanFault
release_record_fault plan fields =
    fault_if (not (takes_releases plan)) OutOfPlace (
    fault_if (not (length fields == 2)) FieldCount (
    fault_if (is_none (number_at fields 1)) Number (
    release_fault plan (number_told fields 1))))

-- only version 2 has records of release lists
abbrev pub list_fault : TextVersion → PlanModel → List (List ℕ) → Option PlanFault
list_fault V1 plan fields = Some OutOfPlace
list_fault V2 plan fields =
    if has_word fields 0 (codes "listed") then listed_record_fault plan fields
    else if has_word fields 0 (codes "release") then release_record_fault plan fields
    else Some OutOfPlace

-- later records are resources, tasks, or units or releases of the newest task; then comes the end
abbrev pub body_fault : TextVersion → PlanModel → Option (List (List ℕ)) → Option PlanFault
body_fault version plan None = finish_fault plan
body_fault version plan (Some fields) =
    if has_word fields 0 (codes "resource") then resource_record_fault plan fields
    else if has_word fields 0 (codes "task") then task_record_fault plan fields
    else if has_word fields 0 (codes "op") then op_record_fault plan fields
    else list_fault version plan fields

-- the first rule that the next record violates, given the earlier ones; None is the end
unfoldable pub fault_after : List (List (List ℕ)) → Option (List (List ℕ)) → Option PlanFault
fault_after [] next = version_fault next
fault_after (version ∷ []) next = cores_fault next
fault_after (version ∷ cores ∷ []) next = ticks_fault (number_told cores 1) next
fault_after (version ∷ cores ∷ ticks ∷ rest) next = body_fault (version_told version) (plan_told (version ∷ cores ∷ ticks ∷ rest)) next

-- a refusal by its record's number: records are counted from 1, the end as one more
abbrev pub refusal_at : List (List (List ℕ)) → ℕ → Option TextError
refusal_at records n = option_map (λ fault. At fault (n + 1)) (fault_after (take n records) (slice_get records n))

-- the refusals of all records that violate a rule, given those before them
abbrev pub refusals : List (List (List ℕ)) → List TextError
refusals records = filter_map (refusal_at records) (range_with_len 0 (length records + 1))

-- the first refusal, otherwise the plan
abbrev pub first_or : List TextError → PlanModel → Result PlanModel TextError
first_or [] plan = Ok plan
first_or (refusal ∷ rest) plan = Err refusal

-- the plan of the records, or the first refusal
unfoldable pub plan_of : List (List (List ℕ)) → Result PlanModel TextError
plan_of records = first_or (refusals records) (plan_told records)

-- the answer is this one, unless a read failed or memory ran out
abbrev pub Answers : Result PlanModel TextError → Result PlanModel TextError → Type 0
Answers answer due = (answer ≡ Err Read) ⊎ (answer ≡ Err Memory) ⊎ (answer ≡ due)
