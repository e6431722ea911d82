use Rattle.msrp_text.proofs.Firsts.{accepted}
use Rattle.msrp_text.proofs.laws.acceptance.Goals as goal

pub returns : goal.returns
returns c = accepted
