-- A job that waits three times: it spins once, twice and once.
use Rattle.std.specs.Prelude.{◌∷◌, ◌++◌}
use Rattle.msrp_plan.specs.Common.{List, [], codes, PlanModel}
use Rattle.msrp_report.specs.Common.{JobId, Row}
use Rattle.msrp_plan.specs.Examples.Notation.{task, section, job, idle, run, take, queue, spin, grant, release}

abbrev pub plan : PlanModel
plan = record {
  cores = 2;
  ticks = 13;
  resources = codes "g" ∷ [];
  tasks =
      task (codes "a") 0 20 11 0 (section 0 1 ++ section 0 2 ++ section 0 1)
      ∷ task (codes "b") 1 20 13 0 (section 0 0 ++ section 0 0 ++ section 0 0)
      ∷ [];
}

abbrev a : JobId
a = job 0 0

abbrev b : JobId
b = job 1 0

-- a ends one tick after its deadline, and b exactly at its own
abbrev pub rows : List Row
rows =
    take 0 0 a 0
    ∷ queue 0 1 b 0
    ∷ run 1 0 a
    ∷ spin 1 1 b 0
    ∷ release 2 0 a 0
    ∷ grant 2 1 b 0
    ∷ queue 3 0 a 0
    ∷ release 3 1 b 0
    ∷ grant 4 0 a 0
    ∷ queue 4 1 b 0
    ∷ run 5 0 a
    ∷ spin 5 1 b 0
    ∷ run 6 0 a
    ∷ spin 6 1 b 0
    ∷ release 7 0 a 0
    ∷ grant 7 1 b 0
    ∷ queue 8 0 a 0
    ∷ release 8 1 b 0
    ∷ grant 9 0 a 0
    ∷ queue 9 1 b 0
    ∷ run 10 0 a
    ∷ spin 10 1 b 0
    ∷ release 11 0 a 0
    ∷ grant 11 1 b 0
    ∷ idle 12 0
    ∷ release 12 1 b 0
    ∷ []
