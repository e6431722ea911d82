use Rattle.std.proofs.Common.{◌≤◌, ◌≡◌}
use Rattle.msrp_plan.proofs.Common.{ℕ, [], Some, length, slice_get, vec_capacity}
use Rattle.msrp_why.proofs.Common.{IsNoted, ResourceNotes}
use Rattle.msrp_why.proofs.notes.resources_of.Given as goal

abbrev pub invariant-loop-res : goal.invariant-loop-res
invariant-loop-res l =
    ((length l.resources.items ≡ l._res) × ((g : ℕ) (n : ResourceNotes) → slice_get l.resources.items g ≡ Some n → IsNoted [] g n))
    × (l.count ≤ vec_capacity l.resources)
