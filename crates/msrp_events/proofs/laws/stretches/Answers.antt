use Rattle.msrp_events.proofs.Stretches.{in_stretch}
use Rattle.msrp_events.proofs.laws.stretches.Goals as goal

pub returns : goal.returns
returns c = in_stretch
