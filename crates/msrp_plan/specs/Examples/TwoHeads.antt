-- Two jobs are released at once: the earlier deadline runs first, though it is declared last.
use Rattle.std.specs.Prelude.{List, [], ◌∷◌, codes}
use Rattle.msrp_plan.specs.Examples.Notation.{task, works, job, idle, run, changed, PlanModel, Row}

abbrev pub plan : PlanModel
plan = record { cores = 1; ticks = 4; resources = []; tasks = task (codes "x") 0 20 10 0 (works 2) ∷ task (codes "y") 0 20 5 0 (works 1) ∷ [] }

abbrev pub rows : List Row
rows = run 0 0 (job 1 0) ∷ run 1 0 (job 0 0) ∷ run 2 0 (job 0 0) ∷ idle 3 0 ∷ []

-- x, declared first, runs first
abbrev pub by_declaration : List Row
by_declaration = changed rows 1 (run 0 0 (job 0 0))
