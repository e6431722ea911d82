use Rattle.msrp_plan.proofs.Runs.CoreRuns.{core_run, core_run_whole}
use Rattle.msrp_plan.proofs.definitions.core_runs.Goals as goal

pub returns : goal.returns
returns c = record { rows = core_run; whole = core_run_whole }
