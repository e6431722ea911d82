use Rattle.std.proofs.Common.{◌≡◌}
use Rattle.msrp_plan.proofs.Common.{map, take, filter, greatest, level_of, uses}
use Rattle.msrp_system.proofs.tables.ceiling_of.Given as goal

abbrev pub invariant-loop-t : goal.invariant-loop-t
invariant-loop-t l = l.highest ≡ greatest (map (level_of l.parts) (filter (uses l.res.0) (take l.t l.parts.tasks)))
