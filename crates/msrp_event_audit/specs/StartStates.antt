-- A start state: what is known in the middle of a log, one fact after another.
use Rattle.std.specs.Prelude.{◌<◌, ◌∷◌, ◌++◌}
use Rattle.msrp_plan.specs.Common.{ℕ, List, [], true, Some, fold, set, length, ⊤, PlanModel}
use Rattle.msrp_events.specs.Changes.{LogState, first_state}
use Rattle.msrp_event_audit.specs.LogJobs.{IsKnown}
use Rattle.msrp_event_audit.specs.declared.facts.Fact.{Fact}
use Rattle.msrp_event_audit.specs.declared.facts.Fact.TheVariants.{Next, Job, Core, Free, Stopped}

-- the state with one fact more: jobs are in the order of their facts
abbrev pub with_fact : LogState → Fact → LogState
with_fact s (Next t number) = record s { next = set s.next t.0 number }
with_fact s (Job j r) = record s { jobs = s.jobs ++ j ∷ [] }
with_fact s (Core c log) = record s { cores = set s.cores c.0 log }
with_fact s (Free r time) = record s { free = set s.free r.0 (Some time) }
with_fact s Stopped = record s { stopped = true }

-- the state that the facts describe; what they don't mention is as before the first event
abbrev pub state_by : PlanModel → List Fact → LogState
state_by system facts = fold with_fact (first_state system) facts

-- what the fact is about exists, and there is room for its job
abbrev pub CanStore : Fact → LogState → ℕ → Type 0
CanStore (Next t number) s room = t.0 < length s.next
CanStore (Job j r) s room = length s.jobs < room
CanStore (Core c log) s room = c.0 < length s.cores
CanStore (Free r time) s room = r.0 < length s.free
CanStore Stopped s room = ⊤

-- a job is of a task of the system
abbrev pub IsFactOf : PlanModel → Fact → Type 0
IsFactOf system (Job j r) = IsKnown system j
IsFactOf system _ = ⊤
