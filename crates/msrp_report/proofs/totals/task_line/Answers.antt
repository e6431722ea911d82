use Rattle.std.proofs.Common.{◌<◌, ◌∙◌}
use Rattle.msrp_plan.proofs.Common.{sym, ap, arith, job_at}
use Rattle.msrp_report.proofs.Common.{Line, job_in, line_with, numbers_of}
use Rattle.msrp_report.proofs.LineJobs.{jobs_few, over_more}
use Rattle.msrp_report.proofs.totals.task_line.Goals as goal
use Rattle.msrp_plan.proofs.Tests.{one_at_most}

pub job_numbers-requires-clause-job : goal.job_numbers-requires-clause-job
job_numbers-requires-clause-job c = let count = c.jobs-jobs.ensures.count in let test = c.loop-k-test.true in job_in c.args.plan.now c.args.task.0 c.loop-k.k c.requires.plan c.requires.task (omega (arith, count, test))

pub with_job-line-requires : goal.with_job-line-requires
with_job-line-requires c =
    let count = c.jobs-jobs.ensures.count in
    let test = c.loop-k-test.true in
    let few = jobs_few c.args.plan.now c.args.task.0 in
    let ticks = c.requires.plan.draft.ticks in
    let i = c.loop-k.invariant in
    let k : c.loop-k.k < 20000 = omega (arith, count, test, few, ticks) in
    record {
      finished = let a = i.finished in omega (arith, a, k);
      late = let a = i.late in omega (arith, a, k);
      spin = let a = i.spin in let b = c.job_numbers.ensures.spins in omega (arith, a, b, k);
      blocked = let a = i.blocked in let b = c.job_numbers.ensures.blocked in omega (arith, a, b, k);
    }

pub loop-k-preserved : goal.loop-k-preserved
loop-k-preserved c =
    let plan = c.args.plan.now in
    let t = c.args.task.0 in
    let k = c.loop-k.k in
    let i = c.loop-k.invariant in
    let with_job = c.with_job-line.ensures in
    record {
      line = λ rows told. with_job ∙ (ap (λ n. line_with n c.loop-k.line) (c.job_numbers.ensures.numbers rows told) ∙ (ap (line_with (numbers_of plan rows (job_at t k))) (i.line rows told) ∙ sym (over_more plan rows t k)));
      finished = let e = ap (λ (l : Line). l.finished) with_job in let b = one_at_most c.job_numbers.result.finished in let a = i.finished in omega (arith, e, a, b);
      late = let e = ap (λ (l : Line). l.late) with_job in let b = one_at_most c.job_numbers.result.late in let a = i.late in omega (arith, e, a, b);
      spin = let e = ap (λ (l : Line). l.spin) with_job in let b = c.job_numbers.ensures.spins in let a = i.spin in omega (arith, e, a, b);
      blocked = let e = ap (λ (l : Line). l.blocked) with_job in let b = c.job_numbers.ensures.blocked in let a = i.blocked in omega (arith, e, a, b);
    }
