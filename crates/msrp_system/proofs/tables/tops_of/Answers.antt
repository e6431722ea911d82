use Rattle.std.proofs.Common.{◌++◌, ◌∷◌, ◌∙◌}
use Rattle.msrp_plan.proofs.Common.{ℕ, [], List, ap, sym, arith, length, map, range_with_len, length-map-range_with_len, map-range_with_len_more, top}
use Rattle.msrp_system.proofs.tables.tops_of.Goals as goal

pub push_reserved-requires : goal.push_reserved-requires
push_reserved-requires c =
    let size = ap length c.loop-c.invariant.tops ∙ length-map-range_with_len (top c.args.parts.now) 0 c.loop-c.c in
    omega arith

pub loop-c-preserved : goal.loop-c-preserved
loop-c-preserved c = record {
  tops = c.push_reserved.ensures.items
      ∙ (ap (λ (xs : List ℕ). xs ++ c.top_of.result ∷ []) c.loop-c.invariant.tops
      ∙ (ap (λ (n : ℕ). map (top c.args.parts.now) (range_with_len 0 c.loop-c.c) ++ n ∷ []) c.top_of.ensures
      ∙ sym (map-range_with_len_more (top c.args.parts.now) 0 c.loop-c.c c.loop-c.c (omega arith))));
  room = c.push_reserved.ensures.capacity ∙ c.loop-c.invariant.room;
}
