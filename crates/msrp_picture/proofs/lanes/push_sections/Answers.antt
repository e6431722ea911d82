use Rattle.msrp_plan.proofs.Common.{ℕ, ap, drop, take_rest}
use Rattle.std.proofs.Common.{◌++◌, ◌∙◌}
use Rattle.msrp_picture.proofs.Common.{first_section}
use Rattle.msrp_picture.proofs.Growing.{grows-each}
use Rattle.msrp_picture.proofs.lanes.push_sections.Goals as goal

pub loop-place-preserved : goal.loop-place-preserved
loop-place-preserved c =
    let rows = c.args.rows.now in
    let at = c.loop-place.place in
    grows-each (λ (i : ℕ). first_section c.args.task c.args.end (drop i rows)) at c.args.blocks.now.items _ _ c.loop-place.invariant
    (c.in_ok-push_section.ensures ∙ ap (λ rest. c.loop-place.blocks.items ++ first_section c.args.task c.args.end rest) (take_rest rows at))
