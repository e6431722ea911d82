use Rattle.std.proofs.Common.{◌<◌}
use Rattle.msrp_plan.proofs.Common.{ℕ, IsSome}
use Rattle.msrp_board.specs.Seats.{book_at}
use Rattle.msrp_text_tests.proofs.board.end.Given as goal

abbrev pub invariant-loop-core : goal.invariant-loop-core
invariant-loop-core g l = (d : ℕ) → d < l.core → IsSome (book_at l.seat d)
