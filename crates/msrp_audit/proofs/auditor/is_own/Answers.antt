use Rattle.std.proofs.Common.{◌∙◌}
use Rattle.msrp_plan.proofs.Common.{eq-eqb, eqb-true, nat_lt, ap, sym, arith}
use Rattle.msrp_audit.proofs.Judging.{own_is, no_task_is, other_core_is}
use Rattle.msrp_audit.proofs.auditor.is_own.Goals as goal
use Rattle.msrp_plan.proofs.Tests.{not_held, held}

pub returns-then-job-tasks : goal.returns-then-job-tasks
returns-then-job-tasks c = let past = c.if-job-tasks.true in let size = c.tasks.ensures.value in no_task_is c.args.plan.now c.args.row c.in-Some.job c.in-Some.is (omega (arith, past, size))

pub returns-then-ne : goal.returns-then-ne
returns-then-ne c = other_core_is c.args.plan.now c.args.row c.in-Some.job c.in-Some.is (λ e. not_held _ c.if-ne.ensures (eq-eqb c.core_of.result.0 c.args.row.core.0 (c.core_of.ensures ∙ e)))

pub returns : goal.returns
returns c =
    let below = c.if-job-tasks.false in
    let size = c.tasks.ensures.value in
    ap (nat_lt c.in-Some.job.k) c.jobs.ensures.count ∙ own_is c.args.plan.now c.args.row c.in-Some.job c.tasks.ensures.plan c.in-Some.is (omega (arith, below, size)) (sym c.core_of.ensures ∙ eqb-true c.core_of.result.0 c.args.row.core.0 (held _ c.if-ne.ensures))
