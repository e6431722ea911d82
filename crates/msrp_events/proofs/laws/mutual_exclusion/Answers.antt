use Rattle.std.proofs.Common.{arith}
use Rattle.msrp_events.specs.Changes.{first_state}
use Rattle.msrp_events.proofs.OneHolder.{log_one}
use Rattle.msrp_events.proofs.laws.mutual_exclusion.Goals as goal

pub returns : goal.returns
returns c = λ system tolerances events legal. log_one system tolerances (first_state system) events legal (λ g. omega arith)
