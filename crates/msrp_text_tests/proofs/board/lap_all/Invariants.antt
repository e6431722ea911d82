use Rattle.std.proofs.Common.{◌≤◌, ◌-◌}
use Rattle.msrp_plan.proofs.Common.{length, All}
use Rattle.msrp_board.specs.Seats.{IsCoreSeatOn}
use Rattle.msrp_text_tests.proofs.board.lap_all.Given as goal

abbrev pub invariant-loop-core : goal.invariant-loop-core
invariant-loop-core g l = All (λ p. IsCoreSeatOn l.board p.seat) l.players × (l.core ≤ length l.players)

abbrev pub decreases-loop-core : goal.decreases-loop-core
decreases-loop-core g l = length l.initial.players - l.core
