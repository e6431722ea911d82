-- Three cores; core 2 doesn't use g and adds nothing to the bound; core 0 adds its longest section.
use Rattle.std.specs.Prelude.{[], ◌∷◌, ◌++◌, codes}
use Rattle.msrp_plan.specs.Examples.Notation.{task, works, section, PlanModel, plan_with}

abbrev pub plan : PlanModel
plan = plan_with 3 9 (codes "g" ∷ []) (
    task (codes "a") 0 20 10 0 (section 0 1 ++ section 0 2)
    ∷ task (codes "b") 0 20 10 0 (section 0 0)
    ∷ task (codes "c") 1 20 10 0 (section 0 1)
    ∷ task (codes "d") 2 20 10 0 (works 1)
    ∷ [])
