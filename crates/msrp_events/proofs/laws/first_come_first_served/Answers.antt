use Rattle.msrp_events.specs.Changes.{first_state}
use Rattle.msrp_events.proofs.RequestOrder.{in_turn}
use Rattle.msrp_events.proofs.laws.first_come_first_served.Goals as goal

pub returns : goal.returns
returns c = λ system tolerances events g legal runs. in_turn system tolerances g (first_state system) events legal runs
