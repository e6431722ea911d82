-- Where a stretch ends: hi is released in tick 1, and lo has three units of work.
use Rattle.std.specs.Prelude.{List, [], ◌∷◌, codes}
use Rattle.msrp_plan.specs.Examples.Notation.{task, works, job, run, runs, queue, PlanModel, JobId, Row, plan_with}

abbrev pub plan : PlanModel
plan = plan_with 1 9 [] (
    task (codes "lo") 0 20 10 0 (works 3)
    ∷ task (codes "hi") 0 20 5 1 (works 1)
    ∷ [])

abbrev pub lo : JobId
lo = job 0 0

abbrev pub hi : JobId
hi = job 1 0

-- no run of the core: lo is queued, and has work next
abbrev pub queued_at_work : List Row
queued_at_work = queue 0 0 lo 0 ∷ []

-- lo works, hi too, and lo works to its end
abbrev pub to_the_end : List Row
to_the_end = run 0 0 lo ∷ run 1 0 hi ∷ runs 2 2 0 lo
