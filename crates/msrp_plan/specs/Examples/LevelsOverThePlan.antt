-- Preemption levels count the deadlines of the whole plan, also those of other cores.
use Rattle.std.specs.Prelude.{[], ◌∷◌, codes}
use Rattle.msrp_plan.specs.Examples.Notation.{task, works, section, PlanModel, plan_with}

abbrev pub plan : PlanModel
plan = plan_with 2 9 (codes "r" ∷ []) (
    task (codes "hi") 0 20 5 0 (section 0 1)
    ∷ task (codes "lo") 0 20 10 0 (section 0 1)
    ∷ task (codes "o") 1 20 7 0 (works 1)
    ∷ [])
