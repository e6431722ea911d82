use Rattle.msrp_plan.proofs.Runs.Determinacy.{same_starts, same_carrying_starts, same_runs, same_carrying_runs}
use Rattle.msrp_plan.proofs.laws.determinacy.Goals as goal

pub returns : goal.returns
returns c = record { starts = same_starts; carrying_starts = same_carrying_starts; runs = same_runs; carrying_runs = same_carrying_runs }
