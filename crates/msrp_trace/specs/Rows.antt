-- The row of a record, or the first rule that the record violates.
use Rattle.msrp_plan.specs.Common.{ℕ, Bool, true, false, not, List, [], length, map, Option, Some, None, is_none, option_map, unwrap_or, option_and_then, bytes_eq, name_position, PlanModel, has_shape, may_carry}
use Rattle.msrp_plan.specs.Words.{kind_text}
use Rattle.msrp_plan.specs.declared.ids.JobId.{JobId}
use Rattle.msrp_plan.specs.declared.ids.ResId.{ResId}
use Rattle.msrp_plan.specs.declared.rows.Kind.{Kind}
use Rattle.msrp_plan.specs.declared.rows.Row.{Row}
use Rattle.msrp_plan.specs.declared.rows.TextVersion.{TextVersion}
use Rattle.msrp_plan.specs.declared.rows.TextVersion.TheVariants.{V1, V2}
use Rattle.std.specs.Prelude.{◌≡◌, ◌∷◌, ◌==◌, ◌&&◌, ◌||◌, if◌then◌else◌, refl}
use Rattle.std.specs.List.{find}
use Rattle.csv.specs.Records.{field_at}
use Rattle.msrp_plan.specs.declared.ids.TaskId.{TaskId}
use Rattle.msrp_plan.specs.declared.rows.Kind.TheVariants as kind
use Rattle.msrp_text.specs.Fields.{has_word, number_at, number_of}
use Rattle.msrp_text.specs.PlanText.{version_text}
use Rattle.msrp_trace.specs.TraceText.{dash, trace_word}
use Rattle.msrp_trace.specs.declared.faults.TraceFault.{TraceFault}
use Rattle.msrp_trace.specs.declared.faults.TraceFault.TheVariants.{FieldCount, Number, Kind as UnknownKind, Name, Shape}

-- ---- the first record
abbrev pub is_number : ℕ → Option ℕ → Bool
is_number n None = false
is_number n (Some m) = m == n

-- the record is the first one of a trace of the plan, of either version
abbrev pub is_head : PlanModel → List (List ℕ) → Bool
is_head plan fields = (length fields == 4) && (has_word fields 0 trace_word && (is_number plan.cores (number_at fields 2) && is_number plan.ticks (number_at fields 3)))

-- the version in a first record, if it is one
abbrev pub version_told : PlanModel → List (List ℕ) → Option TextVersion
version_told plan fields =
    if not (is_head plan fields) then None
    else if has_word fields 1 (version_text V1) then Some V1
    else if has_word fields 1 (version_text V2) then Some V2
    else None

-- ---- the fields of a row
abbrev pub field_count : TextVersion → ℕ
field_count V1 = 6
field_count V2 = 7

abbrev pub kinds : List Kind
kinds = kind.Idle ∷ kind.Run ∷ kind.Lock ∷ kind.Unlock ∷ kind.Take ∷ kind.Queue ∷ kind.Spin ∷ kind.Grant ∷ kind.Release ∷ []

-- the kind of a word
unfoldable pub kind_named : List ℕ → Option Kind
kind_named word = find (λ k. bytes_eq word (kind_text k)) kinds

-- the kind in the third field
abbrev pub kind_told : List (List ℕ) → Option Kind
kind_told fields = option_and_then kind_named (field_at fields 2)

-- the field is a dash: no value
abbrev pub is_dash : List (List ℕ) → ℕ → Bool
is_dash fields i = has_word fields i dash

-- the value of a field, if it has one; a dash is none
abbrev pub told_at : {A : Type 0} → (List ℕ → Option A) → List (List ℕ) → ℕ → Option (Option A)
told_at meaning fields i = if is_dash fields i then Some None else option_map (λ a. Some a) (option_and_then meaning (field_at fields i))

-- the plan's task, and its resource, of a name
abbrev pub task_named : PlanModel → List ℕ → Option TaskId
task_named plan name = option_map (λ t. record { 0 = t }) (name_position (map (λ task. task.name) plan.tasks) name)

abbrev pub res_named : PlanModel → List ℕ → Option ResId
res_named plan name = option_map (λ g. record { 0 = g }) (name_position plan.resources name)

-- the task, the job's number, the resource and the ahead of a record, each none at a dash
abbrev pub task_told : PlanModel → List (List ℕ) → Option (Option TaskId)
task_told plan fields = told_at (task_named plan) fields 3

abbrev pub job_told : List (List ℕ) → Option (Option ℕ)
job_told fields = told_at number_of fields 4

abbrev pub res_told : PlanModel → List (List ℕ) → Option (Option ResId)
res_told plan fields = told_at (res_named plan) fields 5

abbrev pub ahead_told : TextVersion → List (List ℕ) → Option (Option ℕ)
ahead_told V1 fields = Some None
ahead_told V2 fields = told_at number_of fields 6

-- ---- the rules that a record may violate
-- tick and core are numbers, job and ahead a number or a dash
abbrev pub lacks_number : TextVersion → List (List ℕ) → Bool
lacks_number version fields = is_none (number_at fields 0) || (is_none (number_at fields 1) || (is_none (job_told fields) || is_none (ahead_told version fields)))

-- the parts of a row of a kind, by whether it has a task, a job and a resource: idle has none of
-- them, run a task and a job, every other kind all three
abbrev pub has_parts : Kind → Bool → Bool → Bool → Bool
has_parts kind.Idle task job res = not task && (not job && not res)
has_parts kind.Run task job res = task && (job && not res)
has_parts _ task job res = task && (job && res)

-- in version 2 a queue row has an ahead, and no other row has one
abbrev pub has_its_ahead : TextVersion → Kind → Bool → Bool
has_its_ahead V1 k ahead = true
has_its_ahead V2 kind.Queue ahead = ahead
has_its_ahead V2 _ ahead = not ahead

-- the record has the fields that its kind needs, and no others
abbrev pub is_shaped : TextVersion → List (List ℕ) → Kind → Bool
is_shaped version fields k = has_parts k (not (is_dash fields 3)) (not (is_dash fields 4)) (not (is_dash fields 5)) && has_its_ahead version k (not (is_dash fields 6))

-- the record names a task or a resource that the plan lacks
abbrev pub lacks_name : PlanModel → List (List ℕ) → Bool
lacks_name plan fields = is_none (task_told plan fields) || is_none (res_told plan fields)

-- the fault if the test holds, and otherwise what the later checks find
abbrev pub fault_if : Bool → TraceFault → Option TraceFault → Option TraceFault
fault_if test fault rest = if test then Some fault else rest

-- the first rule that a record of a known kind violates
abbrev pub kind_fault : TextVersion → PlanModel → List (List ℕ) → Option Kind → Option TraceFault
kind_fault version plan fields None = Some UnknownKind
kind_fault version plan fields (Some k) = fault_if (not (is_shaped version fields k)) Shape (fault_if (lacks_name plan fields) Name None)

-- the first rule that a record violates as a row, in the order of the checks
unfoldable pub row_fault : TextVersion → PlanModel → List (List ℕ) → Option TraceFault
row_fault version plan fields =
    fault_if (not (length fields == field_count version)) FieldCount (
    fault_if (lacks_number version fields) Number (
    kind_fault version plan fields (kind_told fields)))

-- ---- the row
abbrev pub job_with : Option TaskId → Option ℕ → Option JobId
job_with (Some t) (Some k) = Some (record { task = t; k = k })
job_with _ _ = None

-- the row of these parts, if they have the shape of their kind
abbrev pub row_if : (tick core : ℕ) (k : Kind) (job : Option JobId) (res : Option ResId) (ahead : Option ℕ) (shaped carried : Bool) → has_shape k job res ≡ shaped → may_carry k ahead ≡ carried → Option Row
row_if tick core k job res ahead true true s c = Some (record { tick = tick; core = record { 0 = core }; kind = k; job = job; res = res; ahead = ahead; shape = s; carrier = c })
row_if tick core k job res ahead _ _ s c = None

-- the row of these parts, if they are one
abbrev pub row_with : ℕ → ℕ → Kind → Option JobId → Option ResId → Option ℕ → Option Row
row_with tick core k job res ahead = row_if tick core k job res ahead (has_shape k job res) (may_carry k ahead) refl refl

-- the row of a record, if it has one
unfoldable pub row_told : TextVersion → PlanModel → List (List ℕ) → Option Row
row_told version plan fields =
    row_with (unwrap_or (number_at fields 0) 0) (unwrap_or (number_at fields 1) 0) (unwrap_or (kind_told fields) kind.Idle)
    (job_with (unwrap_or (task_told plan fields) None) (unwrap_or (job_told fields) None)) (unwrap_or (res_told plan fields) None) (unwrap_or (ahead_told version fields) None)
