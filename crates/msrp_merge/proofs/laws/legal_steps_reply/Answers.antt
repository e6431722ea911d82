use Rattle.msrp_merge.proofs.Replies.{replies_law}
use Rattle.msrp_merge.proofs.laws.legal_steps_reply.Goals as goal

pub returns : goal.returns
returns c = replies_law
