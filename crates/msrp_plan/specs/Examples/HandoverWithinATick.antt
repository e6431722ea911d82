-- Two cores want one resource. Core 0 has its turn first in each tick, so a resource that it
-- releases in tick 2 is granted to core 1 in the same tick.
use Rattle.std.specs.Prelude.{List, [], ◌∷◌, ◌++◌, codes}
use Rattle.msrp_plan.specs.Examples.Notation.{task, section, job, idle, run, take, queue, queue_behind, spin, grant, release, changed, without_last, PlanModel, JobId, Row, plan_with}

abbrev pub plan : PlanModel
plan = plan_with 2 6 (codes "g" ∷ []) (
    task (codes "a") 0 20 8 0 (section 0 1)
    ∷ task (codes "b") 1 20 8 0 (section 0 1)
    ∷ [])

abbrev a : JobId
a = job 0 0

abbrev b : JobId
b = job 1 0

-- the legal run
abbrev pub rows : List Row
rows =
    take 0 0 a 0
    ∷ queue 0 1 b 0
    ∷ run 1 0 a
    ∷ spin 1 1 b 0
    ∷ release 2 0 a 0
    ∷ grant 2 1 b 0
    ∷ idle 3 0
    ∷ run 3 1 b
    ∷ idle 4 0
    ∷ release 4 1 b 0
    ∷ idle 5 0
    ∷ idle 5 1
    ∷ []

-- the run, and b's request carries that a is ahead
abbrev pub with_ahead : List Row
with_ahead = changed rows 2 (queue_behind 0 1 b 0 1)

-- b's request carries that two are ahead
abbrev pub ahead_miscounted : List Row
ahead_miscounted = changed rows 2 (queue_behind 0 1 b 0 2)

-- a turn of core 2, which the plan lacks
abbrev pub turn_of_no_core : List Row
turn_of_no_core = changed rows 1 (take 0 2 a 0)

-- a second turn of core 0 in its tick
abbrev pub second_turn : List Row
second_turn = changed rows 2 (queue 0 0 b 0)

-- a row of another tick than the expected one
abbrev pub tick_too_early : List Row
tick_too_early = changed rows 2 (queue 1 1 b 0)

-- core 0 runs a job of core 1
abbrev pub job_of_another_core : List Row
job_of_another_core = changed rows 3 (run 1 0 b)

-- a second job of a, which its period doesn't release
abbrev pub no_such_job : List Row
no_such_job = changed rows 3 (run 1 0 (job 0 1))

-- core 0 idles while a is unfinished
abbrev pub idle_too_soon : List Row
idle_too_soon = changed rows 3 (idle 1 0)

-- a releases before it has done its unit of work
abbrev pub unit_skipped : List Row
unit_skipped = changed rows 3 (release 1 0 a 0)

-- a is queued, though the resource is free
abbrev pub queued_when_free : List Row
queued_when_free = changed rows 1 (queue 0 0 a 0)

-- b takes what a holds
abbrev pub taken_when_held : List Row
taken_when_held = changed rows 2 (take 0 1 b 0)

-- b is granted what a holds
abbrev pub granted_when_held : List Row
granted_when_held = changed rows 4 (grant 1 1 b 0)

-- b spins, though it is first in the queue
abbrev pub spin_when_first : List Row
spin_when_first = changed rows 6 (spin 2 1 b 0)

-- the last row is missing
abbrev pub cut : List Row
cut = without_last rows

-- the last row is there twice
abbrev pub doubled : List Row
doubled = rows ++ idle 5 1 ∷ []
