use Rattle.msrp_plan.proofs.Common.{arith}
use Rattle.msrp_board.proofs.ArrivedState.{arrived_state}
use Rattle.msrp_board.proofs.held.CoreState.with_arrival.Goals as goal

pub returns : goal.returns
returns c b e k = arrived_state _ b _ (omega arith) e k
