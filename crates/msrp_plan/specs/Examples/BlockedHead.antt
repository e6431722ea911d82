-- A blocked head holds up later jobs: k holds r; j2, the first waiting job, uses r too and is
-- blocked; j, released in tick 12, has a level above the ceiling, but j2 comes before it.
use Rattle.std.specs.Prelude.{List, [], ◌∷◌, ◌++◌, codes}
use Rattle.msrp_plan.specs.Examples.Notation.{task, works, section, job, idle, run, runs, lock, unlock, changed, PlanModel, JobId, Row, plan_with}

abbrev pub plan : PlanModel
plan = plan_with 1 19 (codes "r" ∷ []) (
    task (codes "k") 0 40 20 0 (section 0 12)
    ∷ task (codes "j2") 0 40 15 1 (section 0 1)
    ∷ task (codes "j") 0 40 5 12 (works 1)
    ∷ [])

abbrev k : JobId
k = job 0 0

abbrev j2 : JobId
j2 = job 1 0

abbrev j : JobId
j = job 2 0

-- j waits until j2 has run
abbrev pub rows : List Row
rows = lock 0 0 k 0 ∷ runs 1 12 0 k ++ unlock 13 0 k 0 ∷ lock 14 0 j2 0 ∷ run 15 0 j2 ∷ unlock 16 0 j2 0 ∷ run 17 0 j ∷ idle 18 0 ∷ []

-- j is started in tick 12, past the blocked head
abbrev pub past_the_head : List Row
past_the_head = changed rows 13 (run 12 0 j)

-- the head is started below the ceiling
abbrev pub past_the_ceiling : List Row
past_the_ceiling = changed rows 13 (lock 12 0 j2 0)
