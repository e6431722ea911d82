-- Two outermost sections of one task, the longer one first: at most one of them blocks hi.
use Rattle.std.specs.Prelude.{[], ◌∷◌, ◌++◌, codes}
use Rattle.msrp_plan.specs.Examples.Notation.{task, works, section, PlanModel, plan_with}

abbrev pub plan : PlanModel
plan = plan_with 1 20 (codes "r" ∷ []) (
    task (codes "k") 0 40 20 0 (section 0 3 ++ section 0 1)
    ∷ task (codes "hi") 0 40 5 1 (works 1)
    ∷ [])
