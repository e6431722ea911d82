use Rattle.msrp_plan.proofs.Legality.Aheads.{start_bare, run_bare, ahead_is}
use Rattle.msrp_plan.proofs.definitions.aheads.Goals as goal

pub returns : goal.returns
returns c = record { start = start_bare; run = run_bare; ahead = ahead_is }
