use Rattle.msrp_plan.proofs.Common.{known_task}
use Rattle.msrp_plan.proofs.Jobs.CoreJobs.{known_released}
use Rattle.msrp_core.proofs.jobs.Jobs.comes_first.Goals as goal

pub job_key-requires-clause-task : goal.job_key-requires-clause-task
job_key-requires-clause-task c = known_task c.args.self.now.plan.now c.args.self.now.core.0 c.args.job c.requires.known

pub job_key-requires-clause-released : goal.job_key-requires-clause-released
job_key-requires-clause-released c = known_released c.args.self.now.plan.now c.args.self.now.core.0 c.args.job c.requires.known

pub job_key-requires-in-Some-clause-task : goal.job_key-requires-in-Some-clause-task
job_key-requires-in-Some-clause-task c = known_task c.args.self.now.plan.now c.args.self.now.core.0 c.in-Some.other (c.requires.running c.in-Some.other c.in-Some.is)

pub job_key-requires-in-Some-clause-released : goal.job_key-requires-in-Some-clause-released
job_key-requires-in-Some-clause-released c = known_released c.args.self.now.plan.now c.args.self.now.core.0 c.in-Some.other (c.requires.running c.in-Some.other c.in-Some.is)
