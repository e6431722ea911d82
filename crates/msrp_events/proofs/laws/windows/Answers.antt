use Rattle.msrp_events.proofs.FirstFindings.{rest_shows, start_shows}
use Rattle.msrp_events.proofs.laws.windows.Goals as goal

pub returns : goal.returns
returns c = record { rest = rest_shows; start = start_shows }
