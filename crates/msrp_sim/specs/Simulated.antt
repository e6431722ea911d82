-- A run on one thread, turn by turn.
use Rattle.std.specs.Prelude.{◌≡◌}
use Rattle.msrp_plan.specs.Common.{ℕ, List, true, take, PlanModel, carries_ahead, core_order, IsRun}
use Rattle.msrp_plan.specs.declared.rows.Row.{Row}
use Rattle.msrp_sim.specs.Cores.{CoresModel, StandFor}

-- the plan, the core of each turn, the number of turns so far, and the cores
pub record SimModel : Type 0 where
  pub plan : PlanModel
  pub order : List ℕ
  pub turn : ℕ
  pub cores : CoresModel

-- the simulation made these rows, in its order: each was the next legal one of its core
pub record HasMade (sim : SimModel) (rows : List Row) : Type 0 where
  pub order : core_order rows ≡ take sim.turn sim.order
  pub plan : sim.cores.plan ≡ sim.plan
  pub stands : StandFor sim.cores rows
  pub carries : carries_ahead rows ≡ true

-- a whole run in this order, and each queue row carries its ahead
pub record IsRunIn (plan : PlanModel) (order : List ℕ) (rows : List Row) : Type 0 where
  pub run : IsRun plan rows
  pub turns : core_order rows ≡ order
  pub carries : carries_ahead rows ≡ true
