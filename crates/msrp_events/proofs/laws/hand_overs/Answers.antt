use Rattle.msrp_events.proofs.HandOvers.{handed_over}
use Rattle.msrp_events.proofs.laws.hand_overs.Goals as goal

pub returns : goal.returns
returns c = handed_over
