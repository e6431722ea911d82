use Rattle.std.proofs.Common.{◌≡◌, ◌≤◌, ◌+◌}
use Rattle.msrp_plan.proofs.Common.{length, vec_len, vec_capacity}
use Rattle.msrp_levels.proofs.DistinctDeadlines.{AreDistinctFrom}
use Rattle.msrp_system.proofs.tables.distinct_deadlines.Given as goal

abbrev pub invariant-loop-t : goal.invariant-loop-t
invariant-loop-t l = record {
  found : AreDistinctFrom l.parts l.t l.deadlines.items;
  few : vec_len l.deadlines + l.t ≤ length l.parts.tasks;
  room : vec_capacity l.deadlines ≡ length l.parts.tasks;
}
