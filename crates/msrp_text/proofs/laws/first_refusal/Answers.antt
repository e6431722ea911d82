use Rattle.msrp_text.proofs.Firsts.{first-refused}
use Rattle.msrp_text.proofs.laws.first_refusal.Goals as goal

pub returns : goal.returns
returns c = first-refused
