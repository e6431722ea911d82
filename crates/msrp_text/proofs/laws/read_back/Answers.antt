use Rattle.msrp_text.proofs.ReadBack.{reads_back}
use Rattle.msrp_text.proofs.laws.read_back.Goals as goal

pub returns : goal.returns
returns c = reads_back
