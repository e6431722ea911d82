-- Plans of the worked orders.
use Rattle.msrp_plan.specs.Common.{[], PlanModel}

-- three cores for three ticks, without a task
abbrev pub three_cores : PlanModel
three_cores = record { cores = 3; ticks = 3; resources = []; tasks = [] }
