use Rattle.std.proofs.Common.{◌≡◌}
use Rattle.msrp_plan.proofs.Common.{All}
use Rattle.msrp_board.specs.Seats.{IsCoreSeatOn}
use Rattle.msrp_text_tests.proofs.board.deal.Given as goal

abbrev pub invariant-loop-core : goal.invariant-loop-core
invariant-loop-core g l = All (λ p. IsCoreSeatOn l.board p.seat) l.players.items × (l.rest.board ≡ l.board)
