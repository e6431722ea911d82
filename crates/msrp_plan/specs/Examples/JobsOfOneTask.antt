-- A task's jobs run one after another, each from its release on; in between the core idles.
use Rattle.std.specs.Prelude.{List, [], ◌∷◌, codes}
use Rattle.msrp_plan.specs.Examples.Notation.{task, works, job, idle, run, changed, PlanModel, Row}

abbrev pub plan : PlanModel
plan = record { cores = 1; ticks = 12; resources = []; tasks = task (codes "a") 0 3 3 0 (works 2) ∷ [] }

-- four jobs, in ticks 0, 3, 6 and 9
abbrev pub rows : List Row
rows =
    run 0 0 (job 0 0)
    ∷ run 1 0 (job 0 0)
    ∷ idle 2 0
    ∷ run 3 0 (job 0 1)
    ∷ run 4 0 (job 0 1)
    ∷ idle 5 0
    ∷ run 6 0 (job 0 2)
    ∷ run 7 0 (job 0 2)
    ∷ idle 8 0
    ∷ run 9 0 (job 0 3)
    ∷ run 10 0 (job 0 3)
    ∷ idle 11 0
    ∷ []

-- the second job is started before its release
abbrev pub too_early : List Row
too_early = changed rows 3 (run 2 0 (job 0 1))

-- the fourth job isn't started
abbrev pub never_started : List Row
never_started = changed rows 10 (idle 9 0)
