use Rattle.msrp_merge.proofs.OneMerge.{one_merge}
use Rattle.msrp_merge.proofs.laws.merge_is_unique.Goals as goal

pub returns : goal.returns
returns c = one_merge
