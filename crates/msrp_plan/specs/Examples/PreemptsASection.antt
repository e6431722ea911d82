-- A job above the ceiling preempts a section: only lo uses r, so r's ceiling is lo's level.
use Rattle.std.specs.Prelude.{List, [], ◌∷◌, ◌++◌, codes}
use Rattle.msrp_plan.specs.Examples.Notation.{task, works, section, job, idle, run, runs, lock, unlock, changed, PlanModel, JobId, Row, plan_with}

abbrev pub plan : PlanModel
plan = plan_with 1 9 (codes "r" ∷ []) (
    task (codes "lo") 0 20 10 0 (section 0 3)
    ∷ task (codes "hi") 0 20 5 1 (works 2)
    ∷ [])

abbrev lo : JobId
lo = job 0 0

abbrev hi : JobId
hi = job 1 0

-- hi preempts lo in its section
abbrev pub rows : List Row
rows = lock 0 0 lo 0 ∷ runs 1 2 0 hi ++ runs 3 3 0 lo ++ unlock 6 0 lo 0 ∷ idle 7 0 ∷ idle 8 0 ∷ []

-- lo goes on, as if no section could be preempted
abbrev pub without_preemption : List Row
without_preemption = changed rows 2 (run 1 0 lo)
