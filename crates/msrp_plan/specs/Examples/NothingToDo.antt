-- A plan without a task: its core idles.
use Rattle.std.specs.Prelude.{List, [], ◌∷◌}
use Rattle.msrp_plan.specs.Examples.Notation.{idle, PlanModel, Row}

abbrev pub plan : PlanModel
plan = record {
  cores = 1;
  ticks = 1;
  resources = [];
  tasks = [];
}

-- the legal run
abbrev pub rows : List Row
rows = idle 0 0 ∷ []
