use Rattle.msrp_plan.proofs.Runs.Verdicts.{run_before, start_before, start_push, start_last}
use Rattle.msrp_plan.proofs.definitions.starts.Goals as goal

pub returns : goal.returns
returns c = record { run = run_before; start = start_before; goes_on = start_push; last = start_last }
