use Rattle.std.proofs.Common.{◌≡◌, ◌&&◌}
use Rattle.msrp_plan.proofs.Common.{false, take, list_any, uses}
use Rattle.msrp_system.specs.Inside.Views.{used_elsewhere}
use Rattle.msrp_system.proofs.tables.is_global.Given as goal

abbrev pub invariant-loop-t : goal.invariant-loop-t
invariant-loop-t l = list_any (λ a. uses l.res.0 a && used_elsewhere l.res.0 a.core l.parts.tasks) (take l.t l.parts.tasks) ≡ false
