use Rattle.std.proofs.Common.{◌≡◌}
use Rattle.msrp_plan.proofs.Common.{length}
use Rattle.msrp_merge.proofs.tests.log_of.Given as goal

abbrev pub invariant-loop-turn : goal.invariant-loop-turn
invariant-loop-turn g l = (length l.log.turns ≡ l.turn-index) × (l.log.core ≡ l.core)
