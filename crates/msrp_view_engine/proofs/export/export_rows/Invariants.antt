use Rattle.std.proofs.Common.{◌*◌, ◌-◌}
use Rattle.msrp_plan.proofs.Common.{List, WroteSome}
use Rattle.msrp_view_engine.proofs.Common.{HaveCome, Row}
use Rattle.msrp_view_engine.proofs.export.export_rows.Given as goal

abbrev pub invariant-loop-exporter : goal.invariant-loop-exporter
invariant-loop-exporter g l =
    (rows : List Row)
    × HaveCome g.T.Read.remaining l.fn.rows l.rows rows
    × WroteSome g.W.Write.contents l.fn.out l.out

abbrev pub decreases-loop-exporter : goal.decreases-loop-exporter
decreases-loop-exporter g l = l.rows.auditor.plan.cores * l.rows.auditor.plan.ticks - l.rows.auditor.fed
