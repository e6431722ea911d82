-- How the examples write systems and logs.
use Rattle.msrp_plan.specs.Common.{ℕ, List, Option, Some, None, TaskModel, Every}
use Rattle.msrp_plan.specs.declared.ids.JobId.{JobId}
use Rattle.msrp_plan.specs.declared.units.Op.{Op}
use Rattle.msrp_events.specs.declared.events.Action.{Action}
use Rattle.msrp_events.specs.declared.events.Action.TheVariants as action
use Rattle.msrp_events.specs.declared.events.LockAction.{LockAction}
use Rattle.msrp_events.specs.declared.events.LockAction.TheVariants as lock_action
use Rattle.msrp_events.specs.declared.events.Event.{Event}
use Rattle.msrp_events.specs.declared.findings.Finding.{Finding}
use Rattle.msrp_events.specs.declared.findings.Finding.TheVariants as finding
use Rattle.msrp_events.specs.declared.findings.LogRule.{LogRule}
use Rattle.msrp_events.specs.declared.findings.Missing.{Missing}

-- a task: its name, core, relative deadline, and its locks and unlocks
abbrev pub task : List ℕ → ℕ → ℕ → List Op → TaskModel
task name core deadline steps = record { name = name; core = core; times = Every 1 0; deadline = deadline; units = steps }

-- ---- events: a time, a core, what happens, a job and a resource
abbrev pub event : ℕ → ℕ → Action → Event
event t c action = record { time = t; core = record { 0 = c }; number = None; action = action }

-- an event with its number among the records of the core
abbrev pub numbered : ℕ → Event → Event
numbered n e = record e { number = Some n }

abbrev pub boot : ℕ → ℕ → Event
boot t c = event t c action.Boot

abbrev pub release : ℕ → ℕ → JobId → ℕ → Event
release t c j deadline = event t c (action.Release j deadline)

abbrev pub switch : ℕ → ℕ → JobId → Event
switch t c j = event t c (action.Switch (Some j))

abbrev pub idle : ℕ → ℕ → Event
idle t c = event t c (action.Switch None)

abbrev step : LockAction → ℕ → ℕ → JobId → ℕ → Event
step kind t c j g = event t c (action.Step kind j (record { 0 = g }))

abbrev pub lock : ℕ → ℕ → JobId → ℕ → Event
lock t c j g = step lock_action.Lock t c j g

abbrev pub unlock : ℕ → ℕ → JobId → ℕ → Event
unlock t c j g = step lock_action.Unlock t c j g

abbrev pub request : ℕ → ℕ → JobId → ℕ → Event
request t c j g = step lock_action.Request t c j g

abbrev pub acquire : ℕ → ℕ → JobId → ℕ → Event
acquire t c j g = step lock_action.Acquire t c j g

abbrev pub poll : ℕ → ℕ → JobId → ℕ → Event
poll t c j g = step lock_action.Poll t c j g

abbrev pub freed : ℕ → ℕ → JobId → ℕ → Event
freed t c j g = step lock_action.Freed t c j g

abbrev pub end : ℕ → ℕ → JobId → Event
end t c j = event t c (action.End j)

abbrev pub stop : ℕ → ℕ → Event
stop t c = event t c action.Stop

abbrev pub lost : ℕ → ℕ → Event
lost t c = event t c action.Lost

-- ---- what a log shows
abbrev pub good : Option Finding
good = None

abbrev pub fault : LogRule → Option Finding
fault rule = Some (finding.Fault rule)

abbrev pub lacks : Missing → Option Finding
lacks what = Some (finding.Incomplete what)
