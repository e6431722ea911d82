use Rattle.msrp_event_text.proofs.Windows.{window}
use Rattle.msrp_event_text.proofs.laws.windows.Goals as goal

pub returns : goal.returns
returns c = window
