use Rattle.std.proofs.Common.{◌≡◌, ◌≤◌}
use Rattle.msrp_plan.proofs.Common.{take, count_by, is_lock_of, is_unlock_of}
use Rattle.msrp_system.proofs.parts.holds_after.Given as goal

abbrev pub invariant-loop-unit : goal.invariant-loop-unit
invariant-loop-unit l = record {
  locked : l.locks ≡ count_by (is_lock_of l.res.0) (take l.unit-index l.units);
  unlocked : l.unlocks ≡ count_by (is_unlock_of l.res.0) (take l.unit-index l.units);
  few : l.locks ≤ l.unit-index;
  fewer : l.unlocks ≤ l.unit-index;
}
