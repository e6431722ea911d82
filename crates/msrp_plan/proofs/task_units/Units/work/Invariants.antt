use Rattle.std.proofs.Common.{◌≡◌, ◌≤◌, ◌<◌, ◌-◌, ◌+◌}
use Rattle.msrp_plan.specs.Common.{ℕ, Some, slice_get}
use Rattle.msrp_plan.specs.declared.units.Op.TheVariants.{Run}
use Rattle.msrp_plan.proofs.task_units.Units.work.Given as goal

abbrev pub invariant-loop-count : goal.invariant-loop-count
invariant-loop-count l = record {
  few : l.count ≤ l.most;
  work : (i : ℕ) → l.place ≤ i → i < l.place + l.count → slice_get l.self i ≡ Some Run;
}

abbrev pub decreases-loop-count : goal.decreases-loop-count
decreases-loop-count l = l.most - l.count
