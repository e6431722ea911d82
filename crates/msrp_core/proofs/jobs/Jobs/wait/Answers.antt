use Rattle.msrp_core.proofs.Acting.{request_fits}
use Rattle.msrp_core.proofs.jobs.Jobs.wait.Goals as goal

pub raise_global-requires-clause-room : goal.raise_global-requires-clause-room
raise_global-requires-clause-room c = request_fits c.args.self.now c.args.job c.args.res c.requires.can c.requires.free
