use Rattle.msrp_trace.proofs.ReadBack.{run_reads_back}
use Rattle.msrp_trace.proofs.laws.runs_read_back.Goals as goal

pub returns : goal.returns
returns c = run_reads_back
