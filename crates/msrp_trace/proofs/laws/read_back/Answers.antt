use Rattle.msrp_trace.proofs.ReadBack.{reads_back}
use Rattle.msrp_trace.proofs.laws.read_back.Goals as goal

pub returns : goal.returns
returns c = reads_back
