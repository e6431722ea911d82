use Rattle.msrp_plan.proofs.Common.{reverse}
use Rattle.msrp_core.proofs.Running.{newest_done}
use Rattle.msrp_core.proofs.jobs.Jobs.progress.Goals as goal

pub returns : goal.returns
returns c = λ s below e. newest_done c.args.self.now.stack.started (reverse c.args.self.now.below.items) c.args.self.now.progress s below e
