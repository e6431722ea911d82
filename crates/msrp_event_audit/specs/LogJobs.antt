-- What an auditor knows of the jobs that it follows.
use Rattle.std.specs.Prelude.{◌<◌, if◌then◌else◌}
use Rattle.msrp_plan.specs.Common.{length, Option, Some, None, PlanModel}
use Rattle.msrp_events.specs.Choices.{is_before}
use Rattle.msrp_events.specs.declared.states.LiveJob.{LiveJob}

-- the job's task is one of the system
abbrev pub IsKnown : PlanModel → LiveJob → Type 0
IsKnown system j = j.job.task.0 < length system.tasks

-- the first of the jobs so far, with one more
abbrev pub earlier : PlanModel → Option LiveJob → LiveJob → LiveJob
earlier system None j = j
earlier system (Some i) j = if is_before system j i then j else i
