use Rattle.std.proofs.Common.{◌+◌, ◌++◌, ◌∷◌, ◌∙◌}
use Rattle.msrp_plan.proofs.Common.{[], take, sym, subst, IsRun}
use Rattle.msrp_report.proofs.Common.{HasCounted}
use Rattle.msrp_audit.proofs.Scanning.{one_more}
use Rattle.msrp_report.proofs.Reporting.{part_good}
use Rattle.msrp_report.proofs.judging.count_all.Goals as goal

pub count-requires : goal.count-requires
count-requires c =
    let rows = c.args.rows.now in
    let n = c.loop-row.row-index in
    let i = c.loop-row.invariant in
    let more = one_more rows n c.row-item.result c.loop-row-test.true c.row-item.is in
    let run = subst (λ p. IsRun p.now rows) (sym i.plan) c.requires.run in
    (take n rows, i.counted, part_good c.loop-row.counter.plan.now rows (take n rows ++ c.row-item.result ∷ []) (n + 1) run more)

pub loop-row-preserved : goal.loop-row-preserved
loop-row-preserved c =
    let rows = c.args.rows.now in
    let n = c.loop-row.row-index in
    let i = c.loop-row.invariant in
    let more = one_more rows n c.row-item.result c.loop-row-test.true c.row-item.is in
    let run = subst (λ p. IsRun p.now rows) (sym i.plan) c.requires.run in
    record {
      plan = c.count.ensures.plan ∙ i.plan;
      counted = subst (HasCounted c.count.new.self) (sym more) (c.count.ensures.counted (take n rows) i.counted (part_good c.loop-row.counter.plan.now rows (take n rows ++ c.row-item.result ∷ []) (n + 1) run more));
    }
