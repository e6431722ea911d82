use Rattle.std.proofs.Common.{◌++◌, ◌∙◌}
use Rattle.msrp_plan.proofs.Common.{ap, arith, map, range_with_len}
use Rattle.msrp_ready.proofs.Common.{entry, job_at}
use Rattle.msrp_ready.proofs.Gathering.{few_of_task, gather_more, gather_all}
use Rattle.msrp_ready.proofs.calendar.push_jobs.Goals as goal

pub of-requires : goal.of-requires
of-requires c =
    let before = c.loop-k-test.true in
    record {
      plan = c.requires.plan;
      task = c.requires.task;
      released = c.jobs-k-end.ensures.released c.loop-k.k (omega (arith, before));
      number = omega (arith, before, c.jobs-k-end.ensures.count, few_of_task c.args.plan.now c.args.task.0);
    }

pub loop-k-preserved : goal.loop-k-preserved
loop-k-preserved c = gather_more (entry c.args.plan.now) c.args.plan.now c.args.task.0 c.loop-k.k c.args.jobs.now.items c.loop-k.jobs.items c.push.new.self.items c.of.result c.loop-k.invariant c.of.ensures c.in_ok-push.ensures.items

pub returns : goal.returns
returns c = c.loop-k.invariant ∙ ap (λ xs. c.args.jobs.now.items ++ xs) (gather_all (entry c.args.plan.now) c.args.plan.now c.args.task.0 c.loop-k.k (c.jobs-k-end.ensures.numbered ∙ ap (λ n. map (job_at c.args.task.0) (range_with_len 0 n)) (omega arith)))
