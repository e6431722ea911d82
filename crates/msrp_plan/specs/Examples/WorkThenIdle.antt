-- One task of two units on one core of three ticks: it works, and then the core idles.
use Rattle.std.specs.Prelude.{List, [], ◌∷◌, codes}
use Rattle.msrp_plan.specs.Examples.Notation.{task, works, job, idle, run, changed, PlanModel, JobId, Row, plan_with}

abbrev pub plan : PlanModel
plan = plan_with 1 3 [] (
    task (codes "a") 0 3 3 0 (works 2)
    ∷ [])

abbrev a : JobId
a = job 0 0

-- the legal run
abbrev pub rows : List Row
rows = run 0 0 a ∷ run 1 0 a ∷ idle 2 0 ∷ []

-- a third unit, which the task lacks
abbrev pub too_long : List Row
too_long = changed rows 3 (run 2 0 a)

-- an idle tick while a job waits
abbrev pub too_late : List Row
too_late = changed rows 1 (idle 0 0)
