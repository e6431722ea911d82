use Rattle.msrp_plan.proofs.Common.{Some, replicate}
use Rattle.msrp_board.proofs.Common.{AreStates, empty_page}
use Rattle.msrp_board.proofs.states.States.fresh.Given as goal

abbrev pub invariant-loop-core : goal.invariant-loop-core
invariant-loop-core l = AreStates l.states (replicate l.core (Some empty_page))
