use Rattle.msrp_merge.proofs.Histories.{turns_are_history}
use Rattle.msrp_merge.proofs.laws.sorted_turns_are_the_history.Goals as goal

pub returns : goal.returns
returns c = λ g books h turns hist rising sorted fits. turns_are_history g books h turns hist rising sorted (λ c. (fits c).steps)
