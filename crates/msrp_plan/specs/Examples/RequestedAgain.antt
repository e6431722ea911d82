-- A released resource with a queue isn't free: a requests g again before b has polled, and joins
-- the end of the queue. The cores alternate in going first.
use Rattle.std.specs.Prelude.{List, [], ◌∷◌, ◌++◌, codes}
use Rattle.msrp_plan.specs.Examples.Notation.{task, section, job, idle, take, queue, spin, grant, release, changed, PlanModel, JobId, Row, plan_with}

abbrev pub plan : PlanModel
plan = plan_with 2 5 (codes "g" ∷ []) (
    task (codes "a") 0 20 10 0 (section 0 0 ++ section 0 0)
    ∷ task (codes "b") 1 20 10 0 (section 0 0)
    ∷ [])

abbrev a : JobId
a = job 0 0

abbrev b : JobId
b = job 1 0

-- the legal run
abbrev pub rows : List Row
rows =
    take 0 0 a 0
    ∷ queue 0 1 b 0
    ∷ spin 1 1 b 0
    ∷ release 1 0 a 0
    ∷ queue 2 0 a 0
    ∷ grant 2 1 b 0
    ∷ release 3 1 b 0
    ∷ grant 3 0 a 0
    ∷ release 4 0 a 0
    ∷ idle 4 1
    ∷ []

-- a takes g back, past b
abbrev pub overtakes : List Row
overtakes = changed rows 5 (take 2 0 a 0)
