use Rattle.std.proofs.Common.{◌≡◌}
use Rattle.msrp_plan.proofs.Common.{take}
use Rattle.msrp_audit.specs.Audits.{HasFed}
use Rattle.msrp_report.specs.Reports.{HasCounted}
use Rattle.msrp_page.proofs.counts.report_of.Given as goal

abbrev pub invariant-loop-row : goal.invariant-loop-row
invariant-loop-row l = record {
  judged : l.auditor.plan ≡ l.fn.plan;
  plan : l.counter.plan.now ≡ l.fn.plan;
  fed : HasFed l.auditor (take l.row-index l.rows);
  counted : HasCounted l.counter (take l.row-index l.rows);
}
