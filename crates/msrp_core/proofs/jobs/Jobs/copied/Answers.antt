use Rattle.msrp_core.proofs.Running.{of_core}
use Rattle.msrp_core.proofs.jobs.Jobs.copied.Goals as goal

pub units_of_newest-requires : goal.units_of_newest-requires
units_of_newest-requires c = of_core c.args.self.now c.requires
