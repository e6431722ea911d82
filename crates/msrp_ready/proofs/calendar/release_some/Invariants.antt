use Rattle.std.proofs.Common.{◌≡◌, ◌+◌, ◌*◌, ◌≤◌, ◌++◌}
use Rattle.msrp_plan.proofs.Common.{length, take, IsPermutation}
use Rattle.msrp_ready.proofs.Common.{entry_keys}
use Rattle.msrp_ready.proofs.calendar.release_some.Given as goal

abbrev pub invariant-loop-entry : goal.invariant-loop-entry
invariant-loop-entry l = record {
  jobs : IsPermutation (l.initial.heap.jobs ++ take l.entry-index (entry_keys l.plan l.released)) l.heap.jobs;
  size : length l.heap.jobs ≡ length l.initial.heap.jobs + l.entry-index;
  room : l.heap.room ≡ l.initial.heap.room;
  compared : l.heap.compared ≤ l.initial.heap.compared + 13 * l.entry-index;
  counted : l.entry-index + l.initial.heap.compared ≤ 1 + l.heap.compared;
  kept : l.initial.heap.compared ≤ l.heap.compared;
}
