use Rattle.msrp_board.specs.Seats.{IsCoreSeatOn}
use Rattle.msrp_refusals.proofs.steps.all_turns.Given as goal

abbrev pub invariant-loop-core : goal.invariant-loop-core
invariant-loop-core g l = IsCoreSeatOn l.board l.zero × IsCoreSeatOn l.board l.one
