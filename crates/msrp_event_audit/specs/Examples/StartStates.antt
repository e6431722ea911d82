-- Start states in the middle of the log of two cores: when a switch is due, and when a resource
-- that a job awaits is free.
use Rattle.std.specs.Prelude.{◌∷◌}
use Rattle.msrp_plan.specs.Common.{ℕ, List, [], Bool, true, false, Option, Some, None}
use Rattle.msrp_plan.specs.Examples.Notation.{job}
use Rattle.msrp_plan.specs.declared.ids.JobId.{JobId}
use Rattle.msrp_events.specs.Examples.Notation.{acquire}
use Rattle.msrp_events.specs.Examples.TwoCores as two
use Rattle.msrp_events.specs.declared.events.Event.{Event}
use Rattle.msrp_events.specs.declared.states.LiveJob.{LiveJob}
use Rattle.msrp_event_audit.specs.declared.facts.Fact.{Fact}
use Rattle.msrp_event_audit.specs.declared.facts.Fact.TheVariants.{Next, Job, Core, Free}

-- the number of a task's next job
abbrev next : ℕ → ℕ → Fact
next t number = Next (record { 0 = t }) number

-- job 0 of a task, which is started or not, and has done so many locks and unlocks
abbrev live : ℕ → ℕ → Bool → ℕ → LiveJob
live t deadline started step = record { job = job t 0; deadline = deadline; started = started; waits = false; step = step }

-- a core: the time of its last record, who runs, since when it should run another job, and when it
-- last used a resource
abbrev core : ℕ → ℕ → Option JobId → Option ℕ → Option ℕ → Fact
core c time run since acted = Core (record { 0 = c }) (record { booted = true; time = time; number = None; run = run; since = since; acted = acted })

-- lo unlocks cal, and core 0 should run hi from then on
abbrev pub switch_due : List Fact
switch_due =
    next 0 1 ∷ next 1 1 ∷ Job (live 1 210 true 2) None ∷ Job (live 0 63 false 0) None
    ∷ core 0 15 (Some (job 1 0)) (Some 15) (Some 15) ∷ core 1 1 None None None ∷ []

-- lo frees bus, and far, which waits for it, should acquire it
abbrev pub handed_over : List Fact
handed_over =
    next 0 1 ∷ next 1 1 ∷ next 2 1 ∷ Job (live 1 210 true 4) None ∷ Job (record (live 2 123 true 0) { waits = true }) (Some (record { 0 = 0 }))
    ∷ core 0 26 (Some (job 1 0)) None (Some 26) ∷ core 1 25 (Some (job 2 0)) None (Some 25) ∷ Free (record { 0 = 0 }) 26 ∷ []

-- far acquires bus too late
abbrev pub acquires_late : List Event
acquires_late = acquire 30 1 (job 2 0) 0 ∷ []
