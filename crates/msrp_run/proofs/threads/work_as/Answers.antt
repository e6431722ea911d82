use Rattle.msrp_run.proofs.Threading.{as_promised}
use Rattle.msrp_run.proofs.threads.work_as.Goals as goal

pub returns : goal.returns
returns g c = as_promised c.args.board.now (g.W.CoreWork.machine c.args.machine).plan (g.W.CoreWork.machine c.args.machine).core c.args.given c.work.result.0 c.work.result.1 c.requires.given c.work.ensures
