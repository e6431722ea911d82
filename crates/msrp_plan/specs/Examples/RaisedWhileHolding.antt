-- A holder of a global resource isn't preempted: its core's ceiling is its highest level. The task
-- other has no job before tick 7, but still makes g global.
use Rattle.std.specs.Prelude.{List, [], ◌∷◌, codes}
use Rattle.msrp_plan.specs.Examples.Notation.{task, works, section, job, idle, run, lock, take, release, changed, PlanModel, JobId, Row, plan_with}

abbrev pub plan : PlanModel
plan = plan_with 2 7 (codes "g" ∷ []) (
    task (codes "lo") 0 20 10 0 (section 0 3)
    ∷ task (codes "hi") 0 20 6 1 (works 1)
    ∷ task (codes "other") 1 20 10 7 (section 0 0)
    ∷ [])

abbrev lo : JobId
lo = job 0 0

abbrev hi : JobId
hi = job 1 0

-- hi, released in tick 1, waits for the release
abbrev pub rows : List Row
rows =
    take 0 0 lo 0
    ∷ idle 0 1
    ∷ run 1 0 lo
    ∷ idle 1 1
    ∷ run 2 0 lo
    ∷ idle 2 1
    ∷ run 3 0 lo
    ∷ idle 3 1
    ∷ release 4 0 lo 0
    ∷ idle 4 1
    ∷ run 5 0 hi
    ∷ idle 5 1
    ∷ idle 6 0
    ∷ idle 6 1
    ∷ []

-- hi preempts the holder
abbrev pub holder_preempted : List Row
holder_preempted = changed rows 3 (run 1 0 hi)

-- g is locked as if it were local
abbrev pub locked_as_local : List Row
locked_as_local = changed rows 1 (lock 0 0 lo 0)
