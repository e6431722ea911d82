use Rattle.std.proofs.Common.{◌≡◌, ◌*◌, ◌-◌}
use Rattle.msrp_plan.proofs.Common.{List}
use Rattle.msrp_plan.specs.declared.rows.Row.{Row}
use Rattle.msrp_report.specs.Reports.{HasCounted}
use Rattle.msrp_engine.proofs.RowsJudged.{HaveCome}
use Rattle.msrp_engine.proofs.report.report_rows.Given as goal

abbrev pub invariant-loop-counter : goal.invariant-loop-counter
invariant-loop-counter g l =
    (rows : List Row)
    × HaveCome g.T.Read.remaining l.fn.rows l.rows rows
    × (l.counter.plan.now ≡ l.fn.counter.plan.now)
    × HasCounted l.counter rows

abbrev pub decreases-loop-counter : goal.decreases-loop-counter
decreases-loop-counter g l = l.rows.auditor.plan.cores * l.rows.auditor.plan.ticks - l.rows.auditor.fed
