use Rattle.std.proofs.Common.{◌++◌, ◌∷◌, ◌∙◌}
use Rattle.msrp_plan.proofs.Common.{ℕ, [], List, ap, sym, arith, length, map, range_with_len, length-map-range_with_len, map-range_with_len_more, local_ceiling}
use Rattle.msrp_system.proofs.tables.ceilings_of.Goals as goal

pub push_reserved-requires : goal.push_reserved-requires
push_reserved-requires c =
    let size = ap length c.loop-r.invariant.ceilings ∙ length-map-range_with_len (local_ceiling c.args.parts.now) 0 c.loop-r.r in
    omega arith

pub loop-r-preserved : goal.loop-r-preserved
loop-r-preserved c = record {
  ceilings = c.push_reserved.ensures.items
      ∙ (ap (λ (xs : List ℕ). xs ++ c.ceiling_of.result ∷ []) c.loop-r.invariant.ceilings
      ∙ (ap (λ (n : ℕ). map (local_ceiling c.args.parts.now) (range_with_len 0 c.loop-r.r) ++ n ∷ []) c.ceiling_of.ensures
      ∙ sym (map-range_with_len_more (local_ceiling c.args.parts.now) 0 c.loop-r.r c.loop-r.r (omega arith))));
  room = c.push_reserved.ensures.capacity ∙ c.loop-r.invariant.room;
}
