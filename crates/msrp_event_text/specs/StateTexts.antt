-- The text of a start state: records `ns,core,what,task,job,res,num,seq`, each of which is a fact.
use Rattle.std.specs.Prelude.{◌==◌, ◌&&◌, if◌then◌else◌}
use Rattle.msrp_plan.specs.Common.{ℕ, Bool, true, false, List, length, codes, fold, Option, Some, None, option_map, option_and_then, PlanModel}
use Rattle.msrp_plan.specs.declared.ids.JobId.{JobId}
use Rattle.msrp_events.specs.Changes.{LogState}
use Rattle.msrp_events.specs.declared.states.CoreLog.{CoreLog}
use Rattle.msrp_events.specs.declared.states.LiveJob.{LiveJob}
use Rattle.msrp_text.specs.Fields.{has_word, number_at}
use Rattle.msrp_event_audit.specs.StartStates.{with_fact}
use Rattle.msrp_event_audit.specs.declared.facts.Fact.{Fact}
use Rattle.msrp_event_audit.specs.declared.facts.Fact.TheVariants.{Next, Job, Core, Free, Stopped}
use Rattle.msrp_event_text.specs.LogEvents.{is_idle, job_of, res_named, task_named}
use Rattle.msrp_event_text.specs.LogVerdicts.{is_number}
use Rattle.msrp_event_text.specs.Numbers.{long_number_at, optional_number_at}

-- the first record is `msrp-log-state,1` and the number of the system's cores
abbrev pub is_state_head : PlanModel → List (List ℕ) → Bool
is_state_head system fields = (length fields == 3) && (has_word fields 0 (codes "msrp-log-state") && (has_word fields 1 (codes "1") && is_number system.cores (number_at fields 2)))

-- the seventh field is the number of the task's next job
abbrev pub next_fact : PlanModel → List (List ℕ) → Option Fact
next_fact system fields = option_map (λ number. Next (task_named system fields) number) (long_number_at fields 6)

-- a job: the seventh field is its absolute deadline, the eighth how many locks and unlocks it did
abbrev pub live_of : PlanModel → List (List ℕ) → Bool → Bool → Option LiveJob
live_of system fields started waits =
    option_and_then (λ j.
    option_and_then (λ deadline.
    option_map (λ step. record { job = j; deadline = deadline; started = started; waits = waits; step = step }) (number_at fields 7)) (long_number_at fields 6)) (job_of system fields)

abbrev pub job_fact : PlanModel → List (List ℕ) → Bool → Option Fact
job_fact system fields started = option_map (λ j. Job j None) (live_of system fields started false)

abbrev pub waiting_fact : PlanModel → List (List ℕ) → Option Fact
waiting_fact system fields = option_map (λ j. Job j (Some (res_named system fields))) (live_of system fields true true)

-- a core: the time and the number of its last record, who runs, in the sixth field when it last used
-- a resource, and in the seventh since when it should run another job
abbrev pub run_of : PlanModel → List (List ℕ) → Option (Option JobId)
run_of system fields = if is_idle fields then Some None else option_map (λ j. Some j) (job_of system fields)

abbrev pub log_with : ℕ → Option ℕ → Option JobId → Option ℕ → Option ℕ → CoreLog
log_with time number run since acted = record { booted = true; time = time; number = number; run = run; since = since; acted = acted }

abbrev pub log_of : PlanModel → List (List ℕ) → Option CoreLog
log_of system fields =
    option_and_then (λ time.
    option_and_then (λ number.
    option_and_then (λ run.
    option_and_then (λ since.
    option_map (log_with time number run since) (optional_number_at fields 5)) (optional_number_at fields 6)) (run_of system fields)) (optional_number_at fields 7)) (long_number_at fields 0)

abbrev pub core_fact : PlanModel → List (List ℕ) → Option Fact
core_fact system fields = option_and_then (λ c. option_map (λ log. Core (record { 0 = c }) log) (log_of system fields)) (number_at fields 1)

abbrev pub free_fact : PlanModel → List (List ℕ) → Option Fact
free_fact system fields = option_map (λ time. Free (res_named system fields) time) (long_number_at fields 0)

-- what a record says, if it is one of a start state
abbrev pub fact_by_word : PlanModel → List (List ℕ) → Option Fact
fact_by_word system fields =
    if has_word fields 2 (codes "next") then next_fact system fields
    else if has_word fields 2 (codes "ready") then job_fact system fields false
    else if has_word fields 2 (codes "started") then job_fact system fields true
    else if has_word fields 2 (codes "waiting") then waiting_fact system fields
    else if has_word fields 2 (codes "core") then core_fact system fields
    else if has_word fields 2 (codes "free") then free_fact system fields
    else if has_word fields 2 (codes "stopped") then Some Stopped
    else None

abbrev pub fact_of : PlanModel → List (List ℕ) → Option Fact
fact_of system fields = if length fields == 8 then fact_by_word system fields else None

-- the state that the records describe, from a state on, if each record is a fact
abbrev pub state_with_record : PlanModel → Option LogState → List (List ℕ) → Option LogState
state_with_record system state fields = option_and_then (λ s. option_map (with_fact s) (fact_of system fields)) state

abbrev pub state_described : PlanModel → LogState → List (List (List ℕ)) → Option LogState
state_described system s records = fold (state_with_record system) (Some s) records
