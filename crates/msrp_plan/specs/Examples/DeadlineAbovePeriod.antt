-- A relative deadline above the period: a second job of the task is released while the first is
-- unfinished, and waits for it.
use Rattle.std.specs.Prelude.{List, [], ◌∷◌, ◌++◌, codes}
use Rattle.msrp_plan.specs.Examples.Notation.{task, works, job, run, runs, changed, PlanModel, JobId, Row, plan_with}

abbrev pub plan : PlanModel
plan = plan_with 1 9 [] (
    task (codes "a") 0 3 9 0 (works 4)
    ∷ [])

abbrev first : JobId
first = job 0 0

abbrev second : JobId
second = job 0 1

abbrev third : JobId
third = job 0 2

-- the third job isn't finished by the end
abbrev pub rows : List Row
rows = runs 0 4 0 first ++ runs 4 4 0 second ++ run 8 0 third ∷ []

-- the second job, once released, preempts the first
abbrev pub next_job_first : List Row
next_job_first = changed rows 4 (run 3 0 second)
