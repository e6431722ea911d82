-- A section of a local resource inside one of a global resource.
use Rattle.std.specs.Prelude.{List, [], ◌∷◌, ◌++◌, codes}
use Rattle.msrp_plan.specs.Examples.Notation.{task, locks, unlocks, section, job, idle, lock, unlock, take, queue, spin, grant, release, changed, PlanModel, JobId, Row, plan_with}

abbrev pub plan : PlanModel
plan = plan_with 2 5 (codes "g" ∷ codes "h" ∷ []) (
    task (codes "a") 0 20 10 0 (locks 0 ∷ section 1 0 ++ unlocks 0 ∷ [])
    ∷ task (codes "b") 1 20 10 0 (section 0 0)
    ∷ [])

abbrev a : JobId
a = job 0 0

abbrev b : JobId
b = job 1 0

-- a holds g and h in tick 1
abbrev pub rows : List Row
rows =
    take 0 0 a 0
    ∷ queue 0 1 b 0
    ∷ lock 1 0 a 1
    ∷ spin 1 1 b 0
    ∷ unlock 2 0 a 1
    ∷ spin 2 1 b 0
    ∷ release 3 0 a 0
    ∷ grant 3 1 b 0
    ∷ idle 4 0
    ∷ release 4 1 b 0
    ∷ []

-- a takes h as if it were global
abbrev pub taken_as_global : List Row
taken_as_global = changed rows 3 (take 1 0 a 1)

-- a releases g while it holds h
abbrev pub released_before : List Row
released_before = changed rows 5 (release 2 0 a 0)
