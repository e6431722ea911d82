use Rattle.msrp_report.proofs.JobTallies.{tally_told}
use Rattle.msrp_report.proofs.tallies.Tallies.count_of.Goals as goal

pub returns : goal.returns
returns c = λ plan rows begun are. (tally_told plan rows begun c.args.self.now.tasks.items c.args.job c.tally_of.result are c.tally_of.ensures).count
