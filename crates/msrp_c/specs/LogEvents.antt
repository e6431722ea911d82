-- Events of a kernel's log as numbers.
use Rattle.std.specs.Prelude.{◌∷◌, ◌==◌, if◌then◌else◌}
use Rattle.msrp_plan.specs.Common.{ℕ, List, [], Option, Some, None, option_map, option_and_then}
use Rattle.std.specs.List.{find}
use Rattle.msrp_plan.specs.declared.ids.JobId.{JobId}
use Rattle.msrp_events.specs.declared.events.Action.{Action}
use Rattle.msrp_events.specs.declared.events.Action.TheVariants.{Boot, Release, Switch, Step, End, Stop, Lost}
use Rattle.msrp_events.specs.declared.events.Event.{Event}
use Rattle.msrp_events.specs.declared.events.LockAction.{LockAction}
use Rattle.msrp_events.specs.declared.events.LockAction.TheVariants.{Lock, Unlock, Request, Acquire, Poll, Freed}
use Rattle.msrp_c.specs.Turns.{job_numbered, numbered}
use Rattle.msrp_c.specs.declared.log_events.MsrpLogEvent.{MsrpLogEvent}

-- the kind of what a job does with a resource
abbrev pub step_number : LockAction → ℕ
step_number Lock = 3
step_number Unlock = 4
step_number Request = 5
step_number Acquire = 6
step_number Freed = 7
step_number Poll = 11

abbrev pub steps : List LockAction
steps = Lock ∷ Unlock ∷ Request ∷ Acquire ∷ Freed ∷ Poll ∷ []

-- the kind of this number
abbrev pub step_numbered : ℕ → Option LockAction
step_numbered kind = find (λ step. kind == step_number step) steps

-- what a job does with a resource, if the kind and the resource are there
abbrev pub step_of : JobId → Option LockAction → Option ℕ → Option Action
step_of j (Some step) (Some g) = Some (Step step j (record { 0 = g }))
step_of j _ _ = None

-- what an event reports: a release, a step and an end have a job, and a switch has one or none
abbrev pub action_of_job : MsrpLogEvent → JobId → Option Action
action_of_job e j =
    if e.kind == 1 then Some (Release j e.deadline)
    else if e.kind == 8 then Some (End j)
    else step_of j (step_numbered e.kind) (numbered e.resource)

-- what an event with a job reports
abbrev pub action_with : MsrpLogEvent → Option JobId → Option Action
action_with e job = if e.kind == 2 then Some (Switch job) else option_and_then (action_of_job e) job

-- what an event reports
abbrev pub action_of : MsrpLogEvent → Option Action
action_of e =
    if e.kind == 0 then Some Boot
    else if e.kind == 9 then Some Stop
    else if e.kind == 10 then Some Lost
    else option_and_then (action_with e) (job_numbered (numbered e.task) (numbered e.job))

-- the greatest number of 64 bits means that the core's records aren't numbered
abbrev pub seq_numbered : ℕ → Option ℕ
seq_numbered seq = if seq == 18446744073709551615 then None else Some seq

-- the event of the numbers, if they are one's
abbrev pub event_of : MsrpLogEvent → Option Event
event_of e = option_map (λ action. record { time = e.ns; core = record { 0 = e.core }; number = seq_numbered e.seq; action = action }) (action_of e)
