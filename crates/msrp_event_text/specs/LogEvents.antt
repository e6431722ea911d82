-- The event that a record `ns,core,event,task,job,res,num,seq` reports, if it is one of a log.
use Rattle.std.specs.Prelude.{◌==◌, ◌&&◌, ◌||◌, if◌then◌else◌}
use Rattle.msrp_plan.specs.Common.{ℕ, Bool, not, List, [], length, map, codes, Option, Some, None, is_none, is_some, unwrap_or, option_map, option_and_then, name_position, PlanModel}
use Rattle.msrp_plan.specs.declared.ids.TaskId.{TaskId}
use Rattle.msrp_plan.specs.declared.ids.ResId.{ResId}
use Rattle.msrp_plan.specs.declared.ids.JobId.{JobId}
use Rattle.msrp_events.specs.declared.events.Action.{Action}
use Rattle.msrp_events.specs.declared.events.Action.TheVariants.{Boot, Release, Switch, Step, End, Stop, Lost}
use Rattle.msrp_events.specs.declared.events.LockAction.{LockAction}
use Rattle.msrp_events.specs.declared.events.LockAction.TheVariants.{Lock, Unlock, Request, Acquire, Poll, Freed}
use Rattle.msrp_events.specs.declared.events.Event.{Event}
use Rattle.msrp_text.specs.Fields.{has_word, name_at, number_at}
use Rattle.msrp_event_text.specs.declared.events.Refusal.{Refusal}
use Rattle.msrp_event_text.specs.declared.events.Refusal.TheVariants as refusal
use Rattle.msrp_event_text.specs.Numbers.{long_number_at, optional_number_at}

-- ---- names
-- what stands for a task or a resource that the system lacks: the greatest number of 32 bits
abbrev pub unknown : ℕ
unknown = 4294967295

-- the task of the fourth field, and the resource of the sixth
abbrev pub task_named : PlanModel → List (List ℕ) → TaskId
task_named system fields = record { 0 = unwrap_or (name_position (map (λ t. t.name) system.tasks) (name_at fields 3)) unknown }

abbrev pub res_named : PlanModel → List (List ℕ) → ResId
res_named system fields = record { 0 = unwrap_or (name_position system.resources (name_at fields 5)) unknown }

-- the job of the fourth and the fifth field
abbrev pub job_of : PlanModel → List (List ℕ) → Option JobId
job_of system fields = option_map (λ k. record { task = task_named system fields; k = k }) (number_at fields 4)

-- both are empty
abbrev pub is_idle : List (List ℕ) → Bool
is_idle fields = has_word fields 3 [] && has_word fields 4 []

-- ---- what a record reports
-- the absolute deadline is the seventh field
abbrev pub release_of : PlanModel → List (List ℕ) → Option Action
release_of system fields = option_and_then (λ j. option_map (λ deadline. Release j deadline) (long_number_at fields 6)) (job_of system fields)

-- a switch to a job, or to none
abbrev pub switch_of : PlanModel → List (List ℕ) → Option Action
switch_of system fields = if is_idle fields then Some (Switch None) else option_map (λ j. Switch (Some j)) (job_of system fields)

-- the end of a job
abbrev pub end_of : PlanModel → List (List ℕ) → Option Action
end_of system fields = option_map (λ j. End j) (job_of system fields)

-- what a job does with a resource, by the word in the third field
abbrev pub lock_action_of : List (List ℕ) → Option LockAction
lock_action_of fields =
    if has_word fields 2 (codes "lock") then Some Lock
    else if has_word fields 2 (codes "unlock") then Some Unlock
    else if has_word fields 2 (codes "request") then Some Request
    else if has_word fields 2 (codes "acquire") then Some Acquire
    else if has_word fields 2 (codes "poll") then Some Poll
    else if has_word fields 2 (codes "freed") then Some Freed
    else None

-- a job does this with a resource
abbrev pub step_of : PlanModel → List (List ℕ) → Option Action
step_of system fields = option_and_then (λ kind. option_map (λ j. Step kind j (res_named system fields)) (job_of system fields)) (lock_action_of fields)

-- what the record reports, by the word in its third field
abbrev pub action_of : PlanModel → List (List ℕ) → Option Action
action_of system fields =
    if has_word fields 2 (codes "release") then release_of system fields
    else if has_word fields 2 (codes "switch") then switch_of system fields
    else if has_word fields 2 (codes "end") then end_of system fields
    else if has_word fields 2 (codes "boot") then Some Boot
    else if has_word fields 2 (codes "stop") then Some Stop
    else if has_word fields 2 (codes "lost") then Some Lost
    else step_of system fields

-- ---- the event
abbrev pub event_at : ℕ → ℕ → Option ℕ → Action → Event
event_at time core number action = record { time = time; core = record { 0 = core }; number = number; action = action }

-- the event of a record: its time, core, number and action
abbrev pub event_with : PlanModel → List (List ℕ) → Option Event
event_with system fields =
    option_and_then (λ time.
    option_and_then (λ core.
    option_and_then (λ number.
    option_map (event_at time core number) (action_of system fields)) (optional_number_at fields 7)) (number_at fields 1)) (long_number_at fields 0)

-- the event of a record, if it has eight fields and its numbers and its word are those of a log
abbrev pub event_of : PlanModel → List (List ℕ) → Option Event
event_of system fields = if length fields == 8 then event_with system fields else None

-- ---- why a record has none
-- the third field is the word of an event that names no job, or of one that does
abbrev pub is_event_alone : List (List ℕ) → Bool
is_event_alone fields = has_word fields 2 (codes "boot") || (has_word fields 2 (codes "stop") || has_word fields 2 (codes "lost"))

abbrev pub is_event_of_job : List (List ℕ) → Bool
is_event_of_job fields = has_word fields 2 (codes "release") || (has_word fields 2 (codes "switch") || (has_word fields 2 (codes "end") || is_some (lock_action_of fields)))

-- the third field is the word of an event
abbrev pub is_event : List (List ℕ) → Bool
is_event fields = is_event_alone fields || is_event_of_job fields

-- the first that is wrong of a record that is no event
abbrev pub refusal_of : List (List ℕ) → Refusal
refusal_of fields =
    if not (length fields == 8) then refusal.Fields
    else if is_none (long_number_at fields 0) then refusal.Time
    else if is_none (number_at fields 1) then refusal.Core
    else if is_none (optional_number_at fields 7) then refusal.Number
    else if not (is_event fields) then refusal.Event
    else if is_none (number_at fields 4) then refusal.Job
    else refusal.Deadline
