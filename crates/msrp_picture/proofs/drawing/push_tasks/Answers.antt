use Rattle.std.proofs.Common.{◌++◌, ◌∙◌}
use Rattle.msrp_plan.proofs.Common.{ℕ, List, ap}
use Rattle.msrp_picture.proofs.Common.{Row, sections, ticks_begun}
use Rattle.msrp_picture.proofs.Growing.{grows, grows-each}
use Rattle.msrp_picture.proofs.drawing.push_tasks.Goals as goal

pub loop-task-preserved : goal.loop-task-preserved
loop-task-preserved c =
    let before = c.push_rows.new.blocks.items in
    let end = ap (λ (n : ℕ). before ++ sections (record { 0 = c.loop-task.task }) n c.deref.result.now) c.ticks_begun.ensures in
    let own = ap (λ (rows : List Row). before ++ sections (record { 0 = c.loop-task.task }) (ticks_begun c.args.scene.now.plan.now c.args.scene.now.rows.now) rows) (c.deref.ensures.value ∙ c.in_ok-own.ensures) in
    grows-each _ c.loop-task.task c.args.blocks.now.items _ _ c.loop-task.invariant (grows _ _ _ _ _ c.in_ok-push_rows.ensures (c.in_ok-push_sections.ensures ∙ end ∙ own))
