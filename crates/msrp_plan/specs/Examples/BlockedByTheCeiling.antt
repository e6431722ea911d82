-- A job isn't started while another holds a resource that it uses, although its deadline is
-- earlier: lo holds r, whose ceiling is hi's level.
use Rattle.std.specs.Prelude.{List, [], ◌∷◌, ◌++◌, codes}
use Rattle.msrp_plan.specs.Examples.Notation.{task, section, job, idle, run, runs, lock, unlock, changed, PlanModel, JobId, Row, plan_with}

abbrev pub plan : PlanModel
plan = plan_with 1 9 (codes "r" ∷ []) (
    task (codes "lo") 0 20 10 0 (section 0 3)
    ∷ task (codes "hi") 0 20 5 1 (section 0 1)
    ∷ [])

abbrev lo : JobId
lo = job 0 0

abbrev hi : JobId
hi = job 1 0

-- hi is released in tick 1, and waits for the end of the section
abbrev pub rows : List Row
rows = lock 0 0 lo 0 ∷ runs 1 3 0 lo ++ unlock 4 0 lo 0 ∷ lock 5 0 hi 0 ∷ run 6 0 hi ∷ unlock 7 0 hi 0 ∷ idle 8 0 ∷ []

-- hi is started at once, as its deadline alone would require
abbrev pub past_the_ceiling : List Row
past_the_ceiling = changed rows 2 (lock 1 0 hi 0)
