use Rattle.msrp_plan.proofs.Common.{List, subst, sym}
use Rattle.msrp_run.proofs.Common.{AreLogs, IsMergeOf, LogModel, entries_at}
use Rattle.msrp_run.proofs.Headline.{run_of_board}
use Rattle.msrp_run.proofs.threads.run_threads_if.Goals as goal

pub merge-requires-clause-logs : goal.merge-requires-clause-logs
merge-requires-clause-logs g c = subst (λ (l : List LogModel). AreLogs c.args.plan.now l (entries_at c.in_ok-logs.settled.books)) (sym c.deref.ensures.value) c.in_ok-logs.ensures.logs

pub returns : goal.returns
returns g c =
    let plan = c.args.plan.now in
    let board = c.in_ok-logs.settled in
    let rows = c.in_ok-trace.trace.rows.items in
    let run = c.in_ok-logs.ensures in
    let trace = c.in_ok-trace.ensures in
    let merged = subst (λ (l : List LogModel). IsMergeOf plan l (entries_at board.books) rows) c.deref.ensures.value
    (record { run = trace.run; logs_of = trace.logs; history = trace.history; aheads = trace.aheads; order = trace.order }) in
    run_of_board plan c.in_ok-logs.logs.items board rows run.plan run.logs run.aheads run.board run.opened run.done merged
