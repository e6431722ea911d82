-- A job queued for a global resource isn't preempted either: the ceiling rises at the request.
use Rattle.std.specs.Prelude.{List, [], ◌∷◌, codes}
use Rattle.msrp_plan.specs.Examples.Notation.{task, works, section, job, idle, run, take, queue, spin, grant, release, changed, PlanModel, JobId, Row, plan_with}

abbrev pub plan : PlanModel
plan = plan_with 2 7 (codes "g" ∷ []) (
    task (codes "a") 0 20 10 0 (section 0 2)
    ∷ task (codes "lo") 1 20 10 0 (section 0 1)
    ∷ task (codes "hi") 1 20 5 1 (works 1)
    ∷ [])

abbrev a : JobId
a = job 0 0

abbrev lo : JobId
lo = job 1 0

abbrev hi : JobId
hi = job 2 0

-- hi, released in tick 1, waits while lo spins, holds and releases
abbrev pub rows : List Row
rows =
    take 0 0 a 0
    ∷ queue 0 1 lo 0
    ∷ run 1 0 a
    ∷ spin 1 1 lo 0
    ∷ run 2 0 a
    ∷ spin 2 1 lo 0
    ∷ release 3 0 a 0
    ∷ grant 3 1 lo 0
    ∷ idle 4 0
    ∷ run 4 1 lo
    ∷ idle 5 0
    ∷ release 5 1 lo 0
    ∷ idle 6 0
    ∷ run 6 1 hi
    ∷ []

-- hi preempts lo while it is queued
abbrev pub waiter_preempted : List Row
waiter_preempted = changed rows 4 (run 1 1 hi)
