-- A simulation, and the texts of its rows.
use Rattle.std.specs.Prelude.{◌≡◌, ◌<◌}
use Rattle.msrp_plan.specs.Common.{ℕ, List, IfSome}
use Rattle.msrp_plan.specs.declared.rows.Row.{Row}
use Rattle.msrp_sim.specs.Cores.{known_row}
use Rattle.msrp_sim.specs.Simulated.{SimModel, HasMade}
use Rattle.msrp_trace.specs.Gathering.{after_tick}
use Rattle.msrp_trace.specs.Texts.{TextsModel, text_of_core}

-- the simulation made some rows
pub record HasMadeSome (sim : SimModel) : Type 0 where
  pub rows : List Row
  pub made : HasMade sim rows

-- if the next row of a core is known, its text is stored
abbrev pub KeepKnown : SimModel → TextsModel → Type 0
KeepKnown sim texts = (c : ℕ) → c < sim.plan.cores → IfSome (known_row sim.cores c) (λ row. text_of_core texts c ≡ after_tick texts.version texts.plan row)
