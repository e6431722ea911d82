use Rattle.std.proofs.Common.{◌++◌, ◌∙◌, filter_map}
use Rattle.msrp_plan.proofs.Common.{ℕ, List, ap}
use Rattle.msrp_picture.proofs.Common.{Row, ceiling_tick, merged}
use Rattle.msrp_picture.proofs.Growing.{grows, grows-each}
use Rattle.msrp_picture.proofs.drawing.push_cores.Goals as goal

pub loop-core-preserved : goal.loop-core-preserved
loop-core-preserved c =
    let all = ap (λ (rows : List (Row × ℕ)). c.push_rows.new.blocks.items ++ merged (filter_map (ceiling_tick (record { 0 = c.loop-core.core })) rows)) c.requires in
    grows-each _ c.loop-core.core c.args.blocks.now.items _ _ c.loop-core.invariant (grows _ _ _ _ _ c.in_ok-push_rows.ensures (c.in_ok-push_ceilings.ensures ∙ all))
