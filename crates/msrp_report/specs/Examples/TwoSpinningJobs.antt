-- Two jobs of one task that spin once each.
use Rattle.std.specs.Prelude.{◌∷◌}
use Rattle.msrp_plan.specs.Common.{ℕ, List, [], codes, PlanModel}
use Rattle.msrp_report.specs.Common.{JobId, Row}
use Rattle.msrp_plan.specs.Examples.Notation.{task, section, job, idle, run, take, queue, spin, grant, release}

abbrev pub plan : PlanModel
plan = record {
  cores = 2;
  ticks = 8;
  resources = codes "g" ∷ [];
  tasks = task (codes "a") 0 4 4 0 (section 0 1) ∷ task (codes "b") 1 4 4 0 (section 0 0) ∷ [];
}

abbrev a : ℕ → JobId
a = job 0

abbrev b : ℕ → JobId
b = job 1

-- its run, with the cores in rising order
abbrev pub rows : List Row
rows =
    take 0 0 (a 0) 0
    ∷ queue 0 1 (b 0) 0
    ∷ run 1 0 (a 0)
    ∷ spin 1 1 (b 0) 0
    ∷ release 2 0 (a 0) 0
    ∷ grant 2 1 (b 0) 0
    ∷ idle 3 0
    ∷ release 3 1 (b 0) 0
    ∷ take 4 0 (a 1) 0
    ∷ queue 4 1 (b 1) 0
    ∷ run 5 0 (a 1)
    ∷ spin 5 1 (b 1) 0
    ∷ release 6 0 (a 1) 0
    ∷ grant 6 1 (b 1) 0
    ∷ idle 7 0
    ∷ release 7 1 (b 1) 0
    ∷ []
