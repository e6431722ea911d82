use Rattle.std.proofs.Common.{◌≡◌}
use Rattle.msrp_plan.proofs.Common.{false, take}
use Rattle.msrp_system.specs.Inside.Views.{used_elsewhere}
use Rattle.msrp_system.proofs.tables.is_used_elsewhere.Given as goal

abbrev pub invariant-loop-t : goal.invariant-loop-t
invariant-loop-t l = used_elsewhere l.res.0 l.core.0 (take l.t l.parts.tasks) ≡ false
