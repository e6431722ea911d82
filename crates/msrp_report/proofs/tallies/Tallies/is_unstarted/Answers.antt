use Rattle.std.proofs.Common.{◌==◌, ◌∙◌}
use Rattle.msrp_plan.proofs.Common.{ap, sym, not}
use Rattle.msrp_report.proofs.Common.{JobCount}
use Rattle.msrp_report.proofs.JobCounts.{started_by_rows}
use Rattle.msrp_report.proofs.tallies.Tallies.is_unstarted.Goals as goal

pub returns : goal.returns
returns c = λ plan rows begun are. started_by_rows rows c.args.job ∙ ap (λ (x : JobCount). not (x.rows == 0)) (sym (c.count_of.ensures plan rows begun are))
