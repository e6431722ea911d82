use Rattle.std.proofs.Common.{◌∙◌}
use Rattle.msrp_plan.proofs.Common.{sym, eqb-true, arith, job_on}
use Rattle.msrp_levels.proofs.PlanJobs.{job_in}
use Rattle.msrp_policy_tests.proofs.stack.is_own.Goals as goal

pub returns : goal.returns
returns c = λ own.
    let plan = c.args.plan.now in
    let job = c.args.job in
    let size = c.tasks.ensures.value in
    let below = c.if-job-tasks.false in
    let count = c.jobs.ensures.count in
    let few = c.if-job-jobs.false in
    job_on plan 0 job (job_in plan job.task.0 job.k c.tasks.ensures.plan (omega (arith, size, below)) (omega (arith, count, few))) (sym (eqb-true c.core_of.result.0 0 own) ∙ c.core_of.ensures)
