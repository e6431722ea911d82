use Rattle.std.proofs.Common.{◌==◌, ◌++◌, ◌∷◌, ◌∙◌}
use Rattle.msrp_plan.proofs.Common.{ℕ, [], List, ap, sym, arith, length, map, filter, range_with_len, length-map-range_with_len, map-range_with_len_more, greatest, top}
use Rattle.msrp_levels.specs.declared.footprints.Footprint.{Footprint}
use Rattle.msrp_levels.proofs.TaskUses.{top_same}
use Rattle.msrp_levels.proofs.usage.tops_of.Goals as goal

pub push_reserved-requires : goal.push_reserved-requires
push_reserved-requires c =
    let size = ap length c.loop-c.invariant.tops ∙ length-map-range_with_len (top c.args.plan.now) 0 c.loop-c.c in
    omega (arith, size, c.loop-c.invariant.room, c.cores-c-end.ensures.value)

pub loop-c-preserved : goal.loop-c-preserved
loop-c-preserved c =
    let plan = c.args.plan.now in
    let highest = c.top_of.ensures ∙ (ap (λ (ts : List Footprint). greatest (map (λ f. f.level) (filter (λ f. f.core.0 == c.loop-c.c) ts))) c.requires ∙ top_same plan c.loop-c.c) in
    record {
      tops = c.push_reserved.ensures.items
          ∙ (ap (λ (xs : List ℕ). xs ++ c.top_of.result ∷ []) c.loop-c.invariant.tops
          ∙ (ap (λ n. map (top plan) (range_with_len 0 c.loop-c.c) ++ n ∷ []) highest
          ∙ sym (map-range_with_len_more (top plan) 0 c.loop-c.c c.loop-c.c (omega arith))));
      room = c.push_reserved.ensures.capacity ∙ c.loop-c.invariant.room;
    }
