-- Three cores request one resource in one tick, core 2 first: it is granted in request order.
use Rattle.std.specs.Prelude.{List, [], ◌∷◌, codes}
use Rattle.msrp_plan.specs.Examples.Notation.{task, section, job, idle, run, take, queue, spin, grant, release, changed, PlanModel, JobId, Row, plan_with}

abbrev pub plan : PlanModel
plan = plan_with 3 7 (codes "g" ∷ []) (
    task (codes "a") 0 20 10 0 (section 0 1)
    ∷ task (codes "b") 1 20 10 0 (section 0 1)
    ∷ task (codes "c") 2 20 10 0 (section 0 1)
    ∷ [])

abbrev a : JobId
a = job 0 0

abbrev b : JobId
b = job 1 0

abbrev c : JobId
c = job 2 0

-- the legal run
abbrev pub rows : List Row
rows =
    take 0 2 c 0
    ∷ queue 0 1 b 0
    ∷ queue 0 0 a 0
    ∷ run 1 2 c
    ∷ spin 1 1 b 0
    ∷ spin 1 0 a 0
    ∷ release 2 2 c 0
    ∷ grant 2 1 b 0
    ∷ spin 2 0 a 0
    ∷ idle 3 2
    ∷ run 3 1 b
    ∷ spin 3 0 a 0
    ∷ idle 4 2
    ∷ release 4 1 b 0
    ∷ grant 4 0 a 0
    ∷ idle 5 2
    ∷ idle 5 1
    ∷ run 5 0 a
    ∷ idle 6 2
    ∷ idle 6 1
    ∷ release 6 0 a 0
    ∷ []

-- a, who requested last, is granted the resource that b holds
abbrev pub out_of_order : List Row
out_of_order = changed rows 9 (grant 2 0 a 0)
