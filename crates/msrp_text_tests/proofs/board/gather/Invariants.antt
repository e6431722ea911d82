use Rattle.std.proofs.Common.{◌≡◌}
use Rattle.msrp_plan.proofs.Common.{All}
use Rattle.msrp_board.specs.Seats.{IsCoreSeatOn}
use Rattle.msrp_text_tests.proofs.board.gather.Given as goal

abbrev pub invariant-loop-player : goal.invariant-loop-player
invariant-loop-player l = All (λ p. IsCoreSeatOn l.board p.seat) l.players.items × (l.all.board ≡ l.board)

abbrev pub decreases-loop-player : goal.decreases-loop-player
decreases-loop-player l = goal.left-loop-player l
