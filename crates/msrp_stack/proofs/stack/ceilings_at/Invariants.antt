use Rattle.std.proofs.Common.{◌≡◌, ◌<◌}
use Rattle.msrp_plan.proofs.Common.{slice_index_or, ℕ, length}
use Rattle.msrp_stack.proofs.Common.{ceiling_at}
use Rattle.msrp_stack.proofs.stack.ceilings_at.Given as goal

abbrev pub invariant-loop-res : goal.invariant-loop-res
invariant-loop-res l = (length l.ceilings ≡ 32) × ((g : ℕ) → g < l.res → slice_index_or l.ceilings g 0 ≡ ceiling_at l.plan g l.core.0)
