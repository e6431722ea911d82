use Rattle.std.proofs.Common.{◌≡◌, ◌+◌}
use Rattle.msrp_plan.proofs.Common.{nat_lt, take, count_by}
use Rattle.msrp_system.proofs.tables.level_among.Given as goal

abbrev pub invariant-loop-other : goal.invariant-loop-other
invariant-loop-other l = l.level ≡ count_by (nat_lt l.deadline) (take l.other-index l.deadlines) + 1
