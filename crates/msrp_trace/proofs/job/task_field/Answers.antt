use Rattle.std.proofs.Common.{◌∙◌}
use Rattle.msrp_trace.proofs.Names.{name_short}
use Rattle.msrp_trace.proofs.job.task_field.Goals as goal

pub returns-clause-short : goal.returns-clause-short
returns-clause-short c = rw (c.as_bytes.ensures.value ∙ c.task_name.ensures) (name_short c.args.plan.now c.args.task.0 c.tasks-accepted.ensures.plan c.requires)
