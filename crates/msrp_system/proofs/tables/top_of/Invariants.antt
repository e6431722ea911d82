use Rattle.std.proofs.Common.{◌≡◌, ◌==◌}
use Rattle.msrp_plan.proofs.Common.{map, take, filter, greatest, level_of}
use Rattle.msrp_system.proofs.tables.top_of.Given as goal

abbrev pub invariant-loop-t : goal.invariant-loop-t
invariant-loop-t l = l.highest ≡ greatest (map (level_of l.parts) (filter (λ a. a.core == l.core.0) (take l.t l.parts.tasks)))
