use Rattle.std.proofs.Common.{◌≡◌, ◌++◌}
use Rattle.msrp_plan.proofs.Common.{ℕ, flat_map, range_with_len}
use Rattle.msrp_picture.proofs.Common.{row_blocks, sections, task_rows, ticks_begun}
use Rattle.msrp_picture.specs.declared.shapes.Lane.TheVariants.{Task}
use Rattle.msrp_picture.proofs.drawing.push_tasks.Given as goal

abbrev pub invariant-loop-task : goal.invariant-loop-task
invariant-loop-task l = l.blocks.items ≡ l.fn.blocks.items ++ flat_map (λ (t : ℕ). row_blocks (Task (record { 0 = t })) l.fn.scene.rows.now l.fn.scene.later.now ++ sections (record { 0 = t }) (ticks_begun l.fn.scene.plan.now l.fn.scene.rows.now) (task_rows t l.fn.scene.rows.now)) (range_with_len 0 l.task)
