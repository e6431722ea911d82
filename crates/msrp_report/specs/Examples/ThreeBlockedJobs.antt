-- Jobs of one task that are blocked for two rows, for three and for none.
use Rattle.std.specs.Prelude.{◌∷◌, ◌++◌}
use Rattle.msrp_plan.specs.Common.{ℕ, List, [], codes, PlanModel}
use Rattle.msrp_report.specs.Common.{JobId, Row}
use Rattle.msrp_plan.specs.Examples.Notation.{task, listed, section, job, runs, lock, unlock}

abbrev pub plan : PlanModel
plan = record {
  cores = 1;
  ticks = 13;
  resources = codes "r" ∷ [];
  tasks =
      task (codes "k") 0 6 6 0 (section 0 2)
      ∷ listed (codes "hi") 0 3 (2 ∷ 7 ∷ 10 ∷ []) (section 0 0)
      ∷ [];
}

abbrev k : ℕ → JobId
k = job 0

abbrev hi : ℕ → JobId
hi = job 1

-- the last job of hi is cut off, and its deadline is the end of the ticks
abbrev pub rows : List Row
rows =
    lock 0 0 (k 0) 0
    ∷ runs 1 2 0 (k 0)
    ++ unlock 3 0 (k 0) 0
    ∷ lock 4 0 (hi 0) 0
    ∷ unlock 5 0 (hi 0) 0
    ∷ lock 6 0 (k 1) 0
    ∷ runs 7 2 0 (k 1)
    ++ unlock 9 0 (k 1) 0
    ∷ lock 10 0 (hi 1) 0
    ∷ unlock 11 0 (hi 1) 0
    ∷ lock 12 0 (hi 2) 0
    ∷ []
