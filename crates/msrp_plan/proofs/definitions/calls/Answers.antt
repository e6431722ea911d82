use Rattle.msrp_plan.proofs.Queues.Calls.{call_as_row}
use Rattle.msrp_plan.proofs.definitions.calls.Goals as goal

pub returns : goal.returns
returns c = call_as_row
