use Rattle.std.proofs.Common.{◌≡◌, ◌≤◌}
use Rattle.msrp_plan.proofs.Common.{List, map, length, vec_capacity, range_with_len}
use Rattle.msrp_plan.specs.declared.rows.Row.{Row as TraceRow}
use Rattle.msrp_report.proofs.Common.{HasTallied, line_of}
use Rattle.msrp_report.proofs.counter.Counter.end.Given as goal

abbrev pub invariant-loop-task : goal.invariant-loop-task
invariant-loop-task l = record {
  lines : (rows : List TraceRow) → HasTallied l.plan rows l.tallies → l.lines.items ≡ map (line_of l.plan rows) (range_with_len 0 l.task);
  size : length l.lines.items ≡ l.task;
  room : length l.plan.tasks ≤ vec_capacity l.lines;
}
