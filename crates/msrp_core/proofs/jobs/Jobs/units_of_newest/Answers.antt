use Rattle.std.proofs.Common.{◌∙◌}
use Rattle.msrp_plan.proofs.Common.{sym, known_task}
use Rattle.msrp_core.proofs.Running.{newest_of_core}
use Rattle.msrp_core.proofs.jobs.Jobs.units_of_newest.Goals as goal

pub units_of-requires : goal.units_of-requires
units_of-requires c =
    let jobs = c.args.self.now in
    known_task jobs.plan.now jobs.core.0 c.in-Some.job (newest_of_core jobs c.in-Some.job c.requires (sym c.top.ensures.newest ∙ c.in-Some.is))
