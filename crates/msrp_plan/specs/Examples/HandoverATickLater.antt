-- Also legal: core 1 goes first in tick 2, polls before core 0 releases, and is granted later.
use Rattle.std.specs.Prelude.{List, [], ◌∷◌, codes}
use Rattle.msrp_plan.specs.Examples.Notation.{task, section, job, idle, run, take, queue, spin, grant, release, changed, PlanModel, JobId, Row, plan_with}

abbrev pub plan : PlanModel
plan = plan_with 2 6 (codes "g" ∷ []) (
    task (codes "a") 0 20 8 0 (section 0 1)
    ∷ task (codes "b") 1 20 8 0 (section 0 1)
    ∷ [])

abbrev a : JobId
a = job 0 0

abbrev b : JobId
b = job 1 0

-- the legal run
abbrev pub rows : List Row
rows =
    take 0 0 a 0
    ∷ queue 0 1 b 0
    ∷ run 1 0 a
    ∷ spin 1 1 b 0
    ∷ spin 2 1 b 0
    ∷ release 2 0 a 0
    ∷ idle 3 0
    ∷ grant 3 1 b 0
    ∷ idle 4 0
    ∷ run 4 1 b
    ∷ idle 5 0
    ∷ release 5 1 b 0
    ∷ []

-- b is granted the resource before a releases it
abbrev pub before_the_release : List Row
before_the_release = changed rows 5 (grant 2 1 b 0)
