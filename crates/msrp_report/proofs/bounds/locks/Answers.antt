use Rattle.std.proofs.Common.{◌∙◌}
use Rattle.msrp_report.proofs.LineJobs.{user_is}
use Rattle.msrp_report.proofs.bounds.locks.Goals as goal

pub returns : goal.returns
returns c = c.is_among.ensures ∙ user_is c.args.levels.now c.args.res.0 c.args.task.0 c.users.result.now c.requires.task c.users.ensures
