use Rattle.msrp_event_text.proofs.Losses.{no_loss}
use Rattle.msrp_event_text.proofs.laws.loss.Goals as goal

pub returns : goal.returns
returns c = no_loss
