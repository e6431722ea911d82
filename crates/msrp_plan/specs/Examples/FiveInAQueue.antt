-- Five cores request one resource in one tick, so that four wait at once.
use Rattle.std.specs.Prelude.{List, [], ◌∷◌, codes}
use Rattle.msrp_plan.specs.Examples.Notation.{task, section, job, idle, take, queue, spin, grant, release, changed, PlanModel, Row, plan_with}

abbrev pub plan : PlanModel
plan = plan_with 5 6 (codes "g" ∷ []) (
    task (codes "a") 0 20 10 0 (section 0 0)
    ∷ task (codes "b") 1 20 10 0 (section 0 0)
    ∷ task (codes "c") 2 20 10 0 (section 0 0)
    ∷ task (codes "d") 3 20 10 0 (section 0 0)
    ∷ task (codes "e") 4 20 10 0 (section 0 0)
    ∷ [])

-- each holds the resource for one tick
abbrev pub rows : List Row
rows =
    take 0 0 (job 0 0) 0
    ∷ queue 0 1 (job 1 0) 0
    ∷ queue 0 2 (job 2 0) 0
    ∷ queue 0 3 (job 3 0) 0
    ∷ queue 0 4 (job 4 0) 0
    ∷ release 1 0 (job 0 0) 0
    ∷ grant 1 1 (job 1 0) 0
    ∷ spin 1 2 (job 2 0) 0
    ∷ spin 1 3 (job 3 0) 0
    ∷ spin 1 4 (job 4 0) 0
    ∷ idle 2 0
    ∷ release 2 1 (job 1 0) 0
    ∷ grant 2 2 (job 2 0) 0
    ∷ spin 2 3 (job 3 0) 0
    ∷ spin 2 4 (job 4 0) 0
    ∷ idle 3 0
    ∷ idle 3 1
    ∷ release 3 2 (job 2 0) 0
    ∷ grant 3 3 (job 3 0) 0
    ∷ spin 3 4 (job 4 0) 0
    ∷ idle 4 0
    ∷ idle 4 1
    ∷ idle 4 2
    ∷ release 4 3 (job 3 0) 0
    ∷ grant 4 4 (job 4 0) 0
    ∷ idle 5 0
    ∷ idle 5 1
    ∷ idle 5 2
    ∷ idle 5 3
    ∷ release 5 4 (job 4 0) 0
    ∷ []

-- the last of the five is granted the resource in place of the second
abbrev pub last_first : List Row
last_first = changed rows 10 (grant 1 4 (job 4 0) 0)
