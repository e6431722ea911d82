-- What a clause sees of levels, and what their fields keep.
use Rattle.std.specs.Prelude.{◌≡◌}
use Rattle.msrp_plan.specs.Common.{length, map, range_with_len, PlanModel, level_of, top, out}
use Rattle.msrp_levels.specs.Usage.{AreUsages}
use Rattle.msrp_levels.specs.declared.levels.Levels.TheInside.{Inside}

-- the plan of the levels
abbrev pub levels_view : Inside → PlanModel
levels_view l = l.plan.now

-- what is stored is what the plan says
pub record AreLevels (l : Inside) : Type 0 where
  pub usages : AreUsages l.plan.now (length l.plan.now.resources) l.usages.items
  pub levels : l.levels.items ≡ map (level_of l.plan.now) l.plan.now.tasks
  pub tops : l.tops.items ≡ map (top l.plan.now) (range_with_len 0 l.plan.now.cores)
  pub outs : l.outs.items ≡ map (out l.plan.now) l.plan.now.tasks
