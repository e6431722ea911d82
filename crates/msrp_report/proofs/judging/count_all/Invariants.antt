use Rattle.std.proofs.Common.{◌≡◌}
use Rattle.msrp_plan.proofs.Common.{take}
use Rattle.msrp_report.proofs.Common.{HasCounted}
use Rattle.msrp_report.proofs.judging.count_all.Given as goal

abbrev pub invariant-loop-row : goal.invariant-loop-row
invariant-loop-row l = record {
  plan : l.counter.plan ≡ l.fn.counter.plan;
  counted : HasCounted l.counter (take l.row-index l.rows);
}
