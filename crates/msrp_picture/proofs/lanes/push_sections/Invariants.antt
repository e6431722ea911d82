use Rattle.std.proofs.Common.{◌≡◌, ◌++◌}
use Rattle.msrp_plan.proofs.Common.{ℕ, drop, flat_map, range_with_len}
use Rattle.msrp_picture.proofs.Common.{first_section}
use Rattle.msrp_picture.proofs.lanes.push_sections.Given as goal

abbrev pub invariant-loop-place : goal.invariant-loop-place
invariant-loop-place l = l.blocks.items ≡ l.fn.blocks.items ++ flat_map (λ (i : ℕ). first_section l.fn.task l.fn.end (drop i l.fn.rows)) (range_with_len 0 l.place)
