use Rattle.std.proofs.Common.{◌*◌, ◌-◌}
use Rattle.msrp_plan.proofs.Common.{ℕ, List}
use Rattle.msrp_view_engine.proofs.Common.{AreNoted, HasReadIn, HaveCome, Row}
use Rattle.msrp_view_engine.proofs.why.judge_rows.Given as goal

abbrev pub invariant-loop-notes : goal.invariant-loop-notes
invariant-loop-notes g l =
    (rows : List Row)
    × HaveCome g.T.Read.remaining l.fn.rows l.rows rows
    × AreNoted l.plan rows l.notes
    × ((bytes : List ℕ) → HasReadIn g.T.Read.remaining bytes l.fn.rows.rows → HasReadIn g.T.Read.remaining bytes l.rows.rows)

abbrev pub decreases-loop-notes : goal.decreases-loop-notes
decreases-loop-notes g l = l.rows.auditor.plan.cores * l.rows.auditor.plan.ticks - l.rows.auditor.fed
