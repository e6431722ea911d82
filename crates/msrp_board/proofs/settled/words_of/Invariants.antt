use Rattle.std.proofs.Common.{◌≡◌, ◌<◌}
use Rattle.msrp_plan.proofs.Common.{ℕ, length, slice_index}
use Rattle.std.specs.Mem.Slots.{slots_items}
use Rattle.msrp_board.proofs.settled.words_of.Given as goal

abbrev pub invariant-loop-g : goal.invariant-loop-g
invariant-loop-g l = (length l.words ≡ 33) × ((d : ℕ) → d < l.g → slice_index l.words d ≡ slice_index (slots_items l.closed.words) d)
