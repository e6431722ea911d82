-- The tasks of equal deadlines in the other order: the job released first still runs first.
use Rattle.std.specs.Prelude.{List, [], ◌∷◌, ◌++◌, codes}
use Rattle.msrp_plan.specs.Examples.Notation.{task, works, job, idle, run, runs, changed, PlanModel, JobId, Row, plan_with}

abbrev pub plan : PlanModel
plan = plan_with 1 8 [] (
    task (codes "y") 0 20 8 2 (works 2)
    ∷ task (codes "x") 0 20 10 0 (works 5)
    ∷ [])

abbrev y : JobId
y = job 0 0

abbrev x : JobId
x = job 1 0

-- x goes first, although y has the lower task number
abbrev pub rows : List Row
rows = runs 0 5 0 x ++ runs 5 2 0 y ++ idle 7 0 ∷ []

-- y, once released, preempts x, as if the task number broke the tie
abbrev pub by_task_number : List Row
by_task_number = changed rows 3 (run 2 0 y)
