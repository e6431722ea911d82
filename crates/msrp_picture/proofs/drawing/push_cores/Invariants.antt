use Rattle.std.proofs.Common.{◌≡◌, ◌++◌, filter_map}
use Rattle.msrp_plan.proofs.Common.{ℕ, [], flat_map, range_with_len}
use Rattle.msrp_picture.proofs.Common.{ceiling_tick, ceilings, merged, row_blocks}
use Rattle.msrp_picture.specs.declared.shapes.Lane.TheVariants.{Core}
use Rattle.msrp_picture.proofs.drawing.push_cores.Given as goal

abbrev pub invariant-loop-core : goal.invariant-loop-core
invariant-loop-core l = l.blocks.items ≡ l.fn.blocks.items ++ flat_map (λ (c : ℕ). row_blocks (Core (record { 0 = c })) l.fn.scene.rows.now l.fn.scene.later.now ++ merged (filter_map (ceiling_tick (record { 0 = c })) (ceilings l.fn.scene.plan.now [] l.fn.scene.rows.now))) (range_with_len 0 l.core)
