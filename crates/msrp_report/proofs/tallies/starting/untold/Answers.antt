use Rattle.std.proofs.Common.{◌≡◌, ◌∙◌}
use Rattle.msrp_plan.proofs.Common.{refl, arith}
use Rattle.msrp_report.proofs.Starting.{task_untold}
use Rattle.msrp_report.proofs.tallies.starting.untold.Goals as goal

pub returns : goal.returns
returns c =
    let i = c.loop.invariant in
    let all : c.loop.counter ≡ c.jobs-count.result = (let past = c.loop-test.false in let end = c.loop.auto.counter-end in omega (arith, past, end)) in
    task_untold c.args.plan.now c.args.task.0 _ (i.size ∙ (all ∙ c.jobs-count.ensures.count)) c.units.ensures refl i.each
