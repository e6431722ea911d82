use Rattle.std.proofs.Common.{◌≡◌}
use Rattle.msrp_plan.proofs.Common.{rules}
use Rattle.msrp_run.proofs.Common.{size_of}
use Rattle.msrp_run.proofs.Headline.{has_all, left_whole, left_off}
use Rattle.msrp_run.proofs.threads.settled_run.Goals as goal

pub settle-requires-clause-all : goal.settle-requires-clause-all
settle-requires-clause-all g c = has_all _ _ c.in_ok-logs.field-0 c.in_ok-logs.ensures

pub returns-clause-run : goal.returns-clause-run
returns-clause-run g c all =
    let e = c.settle.ensures in
    let size : c.settle.result.size ≡ size_of c.args.plan.now = search rules in
    left_whole _ _ c.in_ok-logs.field-0 c.settle.result c.in_ok-logs.ensures e.books e.conductor e.running size e.tied all

pub returns-clause-off : goal.returns-clause-off
returns-clause-off g c off =
    let e = c.settle.ensures in
    let size : c.settle.result.size ≡ size_of c.args.plan.now = search rules in
    left_off _ _ c.in_ok-logs.field-0 c.settle.result c.in_ok-logs.ensures e.books e.conductor size e.tied off
