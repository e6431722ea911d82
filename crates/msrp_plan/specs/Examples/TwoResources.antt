-- Two global resources in one run, each with its own queue; a job requests its unit's resource.
use Rattle.std.specs.Prelude.{List, [], ◌∷◌, ◌++◌, codes}
use Rattle.msrp_plan.specs.Examples.Notation.{task, section, job, idle, run, take, queue, release, changed, PlanModel, JobId, Row, plan_with}

abbrev pub plan : PlanModel
plan = plan_with 2 5 (codes "g" ∷ codes "h" ∷ []) (
    task (codes "a") 0 20 10 0 (section 0 1 ++ section 1 0)
    ∷ task (codes "b") 1 20 10 0 (section 1 0 ++ section 0 0)
    ∷ [])

abbrev a : JobId
a = job 0 0

abbrev b : JobId
b = job 1 0

-- b requests g in the tick in which a releases it
abbrev pub rows : List Row
rows =
    take 0 0 a 0
    ∷ take 0 1 b 1
    ∷ run 1 0 a
    ∷ release 1 1 b 1
    ∷ release 2 0 a 0
    ∷ take 2 1 b 0
    ∷ take 3 0 a 1
    ∷ release 3 1 b 0
    ∷ release 4 0 a 1
    ∷ idle 4 1
    ∷ []

-- b requests h again, where its next unit locks g
abbrev pub other_resource : List Row
other_resource = changed rows 6 (take 2 1 b 1)

-- b is queued for h, which is free: a holds g
abbrev pub queued_for_another : List Row
queued_for_another = changed rows 2 (queue 0 1 b 1)
