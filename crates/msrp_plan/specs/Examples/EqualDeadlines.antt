-- Equal absolute deadlines: the job released first runs first, for any task numbers.
use Rattle.std.specs.Prelude.{List, [], ◌∷◌, ◌++◌, codes}
use Rattle.msrp_plan.specs.Examples.Notation.{task, works, job, idle, run, runs, changed, PlanModel, JobId, Row, plan_with}

abbrev pub plan : PlanModel
plan = plan_with 1 8 [] (
    task (codes "x") 0 20 10 0 (works 5)
    ∷ task (codes "y") 0 20 8 2 (works 2)
    ∷ [])

abbrev x : JobId
x = job 0 0

abbrev y : JobId
y = job 1 0

-- both deadlines are 10, and x was released first
abbrev pub rows : List Row
rows = runs 0 5 0 x ++ runs 5 2 0 y ++ idle 7 0 ∷ []

-- y, once released, preempts x
abbrev pub preempted : List Row
preempted = changed rows 3 (run 2 0 y)
