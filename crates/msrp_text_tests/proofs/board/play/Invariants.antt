use Rattle.msrp_board.specs.Seats.{IsCoreSeatOn}
use Rattle.msrp_text_tests.proofs.board.play.Given as goal

abbrev pub invariant-loop : goal.invariant-loop
invariant-loop g l = IsCoreSeatOn l.board l.player.seat
