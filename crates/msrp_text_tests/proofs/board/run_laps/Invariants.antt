use Rattle.std.proofs.Common.{◌≤◌}
use Rattle.msrp_plan.proofs.Common.{length, All}
use Rattle.msrp_board.specs.Seats.{IsCoreSeatOn}
use Rattle.msrp_text_tests.proofs.board.run_laps.Given as goal

abbrev pub invariant-loop-tick : goal.invariant-loop-tick
invariant-loop-tick g l = All (λ p. IsCoreSeatOn l.board p.seat) l.players.items × (length l.players.items ≤ 8)
