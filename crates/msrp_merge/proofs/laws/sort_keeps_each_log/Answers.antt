use Rattle.msrp_merge.proofs.Blocks.{merged_is}
use Rattle.msrp_merge.proofs.laws.sort_keeps_each_log.Goals as goal

pub returns : goal.returns
returns c = merged_is
