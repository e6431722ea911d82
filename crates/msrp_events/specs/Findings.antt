-- The order of the checks: an event's finding is the first line that it violates.
use Rattle.std.specs.Prelude.{◌∷◌, ◌==◌, if◌then◌else◌, ◌+◌}
use Rattle.msrp_plan.specs.Common.{ℕ, List, [], Bool, true, false, not, nat_lt, nat_le, Option, Some, None, length, option_or, PlanModel, core_of, is_job, same_choice}
use Rattle.msrp_plan.specs.declared.ids.JobId.{JobId}
use Rattle.msrp_events.specs.LiveJobs.{live}
use Rattle.msrp_events.specs.Choices.{choice}
use Rattle.msrp_events.specs.Changes.{LogState, core_at, next_at, first_state, state_with}
use Rattle.msrp_events.specs.Rules.{any_overdue, any_late, acts_late, is_next_step, has_outcome, is_done}
use Rattle.msrp_events.specs.declared.states.LiveJob.{LiveJob}
use Rattle.msrp_events.specs.declared.states.CoreLog.{CoreLog}
use Rattle.msrp_events.specs.declared.states.Tolerances.{Tolerances}
use Rattle.msrp_events.specs.declared.events.Action.{Action}
use Rattle.msrp_events.specs.declared.events.Action.TheVariants.{Boot, Release, Switch, Step, End, Lost}
use Rattle.msrp_events.specs.declared.events.LockAction.{LockAction}
use Rattle.msrp_events.specs.declared.events.LockAction.TheVariants.{Acquire}
use Rattle.msrp_events.specs.declared.events.Event.{Event}
use Rattle.msrp_events.specs.declared.findings.Finding.{Finding}
use Rattle.msrp_events.specs.declared.findings.Finding.TheVariants.{Fault, Incomplete}
use Rattle.msrp_events.specs.declared.findings.LogRule.{LogRule}
use Rattle.msrp_events.specs.declared.findings.LogRule.TheVariants.{E1, E2, E3, E4, E5, E6, E7, E8, E9, E10}
use Rattle.msrp_events.specs.declared.findings.Missing.{Missing}
use Rattle.msrp_events.specs.declared.findings.Missing.TheVariants as missing

-- a fault if the test holds, and otherwise what the later checks find
abbrev pub fault_if : Bool → LogRule → Option Finding → Option Finding
fault_if test rule rest = if test then Some (Fault rule) else rest

-- something is missing if the test holds; otherwise what the later checks find
abbrev pub lacks_if : Bool → Missing → Option Finding → Option Finding
lacks_if test what rest = if test then Some (Incomplete what) else rest

-- ---- what the log lacks
-- the numbers of two records of a core don't follow each other, where both have one
abbrev pub is_gap : Option ℕ → Option ℕ → Bool
is_gap (Some last) (Some number) = not (number == last + 1)
is_gap _ _ = false

-- a record is missing before this one, or their times don't rise
abbrev pub record_finding : CoreLog → Event → Action → Option Finding
record_finding c e Boot = lacks_if c.booted missing.Restart None
record_finding c e Lost = Some (Incomplete missing.Records)
record_finding c e _ = lacks_if (not c.booted) missing.Start (lacks_if (is_gap c.number e.number) missing.Records (lacks_if (nat_lt e.time c.time) missing.Clock None))

-- the core is one of the system, and the record follows the core's last one
abbrev pub continuity : LogState → Event → Option Finding
continuity s e = lacks_if (nat_le (length s.cores) e.core.0) missing.Core (record_finding (core_at s.cores e.core.0) e e.action)

-- ---- the rules of time
abbrev pub time_finding : Tolerances → LogState → Event → Option Finding
time_finding tolerances s e = fault_if (any_overdue tolerances s.cores e.time) E1 (fault_if (any_late tolerances s.free e.time) E2 None)

-- ---- the rules of jobs
abbrev pub absent : ℕ → ℕ → Option LiveJob → Option Finding
absent next k None = if nat_le next k then Some (Fault E5) else Some (Fault E6)
absent next k (Some x) = None

-- the job is one of the core, and was released and hasn't ended
abbrev pub job_finding : PlanModel → LogState → ℕ → JobId → Option Finding
job_finding system s c j = fault_if (nat_le (length system.tasks) j.task.0) E3 (fault_if (not (core_of system j == c)) E4 (absent (next_at s.next j.task.0) j.k (live s.jobs j)))

-- a task's jobs are released in order, each once, and no more are open than the tolerances allow
abbrev pub release_finding : PlanModel → Tolerances → LogState → JobId → Option Finding
release_finding system tolerances s j =
    fault_if (nat_le (length system.tasks) j.task.0) E3 (
    fault_if (nat_lt j.k (next_at s.next j.task.0)) E7 (
    lacks_if (nat_lt (next_at s.next j.task.0) j.k) missing.Release (
    lacks_if (nat_le tolerances.backlog (length s.jobs)) missing.Room None)))

-- a core switches to the job that it should run
abbrev pub choice_finding : PlanModel → LogState → ℕ → Option JobId → Option Finding
choice_finding system s c j = fault_if (not (same_choice j (choice system s.jobs c))) E8 None

-- a core switches to a job that may run and should
abbrev pub switch_finding : PlanModel → LogState → ℕ → Option JobId → Option Finding
switch_finding system s c None = choice_finding system s c None
switch_finding system s c (Some j) = option_or (job_finding system s c j) (choice_finding system s c (Some j))

-- an acquisition without a request is a gap in the log; every other step out of order is a fault
abbrev pub order_finding : Bool → LockAction → Option Finding → Option Finding
order_finding true kind rest = rest
order_finding false Acquire rest = Some (Incomplete missing.Request)
order_finding false _ rest = Some (Fault E9)

-- a job does its next step, and the lock answers as it must
abbrev pub step_of_finding : PlanModel → LogState → LockAction → JobId → ℕ → Option LiveJob → Option Finding
step_of_finding system s kind j g None = None
step_of_finding system s kind j g (Some x) = order_finding (is_next_step system kind g x) kind (fault_if (not (has_outcome system s.jobs kind g j)) E10 None)

-- the running job acts, in time, does its next step, and the lock answers as it must
abbrev pub step_finding : PlanModel → Tolerances → LogState → Event → LockAction → JobId → ℕ → Option Finding
step_finding system tolerances s e kind j g =
    option_or (job_finding system s e.core.0 j) (
    fault_if (not (is_job (core_at s.cores e.core.0).run j)) E8 (
    fault_if (acts_late tolerances e.time (core_at s.cores e.core.0)) E8 (
    step_of_finding system s kind j g (live s.jobs j))))

-- a job that ends has no lock or unlock left
abbrev pub end_of_finding : PlanModel → Option LiveJob → Option Finding
end_of_finding system None = None
end_of_finding system (Some x) = fault_if (not (is_done system x)) E9 None

-- the running job ends, with no lock or unlock left
abbrev pub end_finding : PlanModel → LogState → ℕ → JobId → Option Finding
end_finding system s c j = option_or (job_finding system s c j) (fault_if (not (is_job (core_at s.cores c).run j)) E8 (end_of_finding system (live s.jobs j)))

-- the finding of an action
abbrev pub action_finding : PlanModel → Tolerances → LogState → Event → Action → Option Finding
action_finding system tolerances s e (Release j deadline) = release_finding system tolerances s j
action_finding system tolerances s e (Switch j) = switch_finding system s e.core.0 j
action_finding system tolerances s e (Step kind j r) = step_finding system tolerances s e kind j r.0
action_finding system tolerances s e (End j) = end_finding system s e.core.0 j
action_finding system tolerances s e _ = None

-- ---- one event, and a log
-- the finding on the event after the others: the first in the order of the checks
abbrev pub finding_of : PlanModel → Tolerances → LogState → Event → Option Finding
finding_of system tolerances s e = if s.stopped then None else option_or (continuity s e) (option_or (time_finding tolerances s e) (action_finding system tolerances s e e.action))

-- the first finding on the events from a state on
abbrev pub finding_from : PlanModel → Tolerances → LogState → List Event → Option Finding
finding_from system tolerances s [] = None
finding_from system tolerances s (e ∷ events) = option_or (finding_of system tolerances s e) (finding_from system tolerances (state_with system s e) events)

-- the first finding on the events of a log; none exactly if they are the start of a legal log
abbrev pub finding_in : PlanModel → Tolerances → List Event → Option Finding
finding_in system tolerances events = finding_from system tolerances (first_state system) events
