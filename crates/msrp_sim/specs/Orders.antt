-- The orders in which the cores of a plan have their turns.
use Rattle.std.specs.Prelude.{◌+◌, ◌-◌, ◌%◌}
use Rattle.msrp_plan.specs.Common.{ℕ, List, map, flat_map, range_with_len, PlanModel, ascending}
use Rattle.msrp_sim.specs.declared.orders.Order.{Order}
use Rattle.msrp_sim.specs.declared.orders.Order.TheVariants.{Asc, Desc, Rot, Given}

-- the turns of the plan, tick by tick: core t i has turn i of tick t
abbrev pub turns_by : (ℕ → ℕ → ℕ) → PlanModel → List ℕ
turns_by core plan = flat_map (λ t. map (core t) (range_with_len 0 plan.cores)) (range_with_len 0 plan.ticks)

-- the cores in falling order
abbrev pub falling : PlanModel → List ℕ
falling plan = turns_by (λ t i. plan.cores - (i + 1)) plan

-- the cores going round upwards, in tick t from core t mod m on, of m
abbrev pub rotating : PlanModel → List ℕ
rotating plan = turns_by (λ t i. (t + i) % plan.cores) plan

-- the cores of the plan in this order, one for each turn
abbrev pub cores_of : Order → PlanModel → List ℕ
cores_of Asc plan = ascending plan.cores plan.ticks
cores_of Desc plan = falling plan
cores_of Rot plan = rotating plan
cores_of (Given cores) plan = cores.items
