use Rattle.std.proofs.Common.{◌≡◌, ◌≤◌, ◌*◌}
use Rattle.msrp_plan.proofs.Common.{List, map, range_with_len, job_at}
use Rattle.msrp_plan.specs.declared.rows.Row.{Row as TraceRow}
use Rattle.msrp_report.proofs.Common.{HasTallied, line_over}
use Rattle.msrp_report.proofs.totals.task_line.Given as goal

abbrev pub invariant-loop-k : goal.invariant-loop-k
invariant-loop-k l = record {
  line : (rows : List TraceRow) → HasTallied l.plan rows l.tallies → l.line ≡ line_over l.plan rows l.task.0 (map (job_at l.task.0) (range_with_len 0 l.k));
  finished : l.line.finished ≤ l.k;
  late : l.line.late ≤ l.k;
  spin : l.line.spin ≤ l.k * 160000;
  blocked : l.line.blocked ≤ l.k * 160000;
}
