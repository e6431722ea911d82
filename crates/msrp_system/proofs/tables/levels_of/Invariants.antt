use Rattle.std.proofs.Common.{◌≡◌}
use Rattle.msrp_plan.proofs.Common.{length, map, take, vec_capacity, level_of}
use Rattle.msrp_system.proofs.tables.levels_of.Given as goal

abbrev pub invariant-loop-t : goal.invariant-loop-t
invariant-loop-t l = record {
  levels : l.levels.items ≡ map (level_of l.parts) (take l.t l.parts.tasks);
  room : vec_capacity l.levels ≡ length l.parts.tasks;
}
