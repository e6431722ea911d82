-- A task that is released at the ticks of a list.
use Rattle.std.specs.Prelude.{ℕ, List, [], ◌∷◌, codes}
use Rattle.msrp_plan.specs.Examples.Notation.{listed, works, job, idle, run, changed, PlanModel, JobId, Row}

-- with these ticks
abbrev pub released_at : List ℕ → PlanModel
released_at ticks = record {
  cores = 1;
  ticks = 5;
  resources = [];
  tasks =
      listed (codes "a") 0 4 ticks (works 1)
      ∷ [];
}

abbrev pub plan : PlanModel
plan = released_at (1 ∷ 3 ∷ [])

abbrev first : JobId
first = job 0 0

abbrev second : JobId
second = job 0 1

abbrev pub rows : List Row
rows =
    idle 0 0
    ∷ run 1 0 first
    ∷ idle 2 0
    ∷ run 3 0 second
    ∷ idle 4 0
    ∷ []

-- a release when the plan's ticks are over is of no job
abbrev pub with_a_late_release : PlanModel
with_a_late_release = released_at (1 ∷ 3 ∷ 5 ∷ [])

-- the first job before its release
abbrev pub too_early : List Row
too_early = changed rows 1 (run 0 0 first)

-- a third job, which isn't one of the plan's
abbrev pub third_job : List Row
third_job = changed rows 5 (run 4 0 (job 0 2))
