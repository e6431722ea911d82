-- A global resource's section inside a local one's: encode requests dma while it holds frame.
use Rattle.std.specs.Prelude.{[], ◌∷◌, ◌++◌, codes}
use Rattle.msrp_plan.specs.Examples.Notation.{task, works, locks, unlocks, section, PlanModel, plan_with}

abbrev pub plan : PlanModel
plan = plan_with 2 16 (codes "frame" ∷ codes "dma" ∷ []) (
    task (codes "encode") 0 16 14 0 (works 1 ++ locks 0 ∷ works 1 ++ section 1 2 ++ works 1 ++ unlocks 0 ∷ [])
    ∷ task (codes "overlay") 0 16 12 2 (section 0 1)
    ∷ task (codes "network") 1 8 8 0 (works 2 ++ section 1 1)
    ∷ [])
