use Rattle.std.proofs.Common.{◌++◌, ◌∷◌, ◌∙◌}
use Rattle.msrp_plan.proofs.Common.{Bool, [], List, ap, sym, arith, length, map, range_with_len, length-map-range_with_len, map-range_with_len_more, is_global}
use Rattle.msrp_system.proofs.tables.globals_of.Goals as goal

pub push_reserved-requires : goal.push_reserved-requires
push_reserved-requires c =
    let size = ap length c.loop-r.invariant.globals ∙ length-map-range_with_len (is_global c.args.parts.now) 0 c.loop-r.r in
    omega arith

pub loop-r-preserved : goal.loop-r-preserved
loop-r-preserved c = record {
  globals = c.push_reserved.ensures.items
      ∙ (ap (λ (xs : List Bool). xs ++ c.is_global.result ∷ []) c.loop-r.invariant.globals
      ∙ (ap (λ (n : Bool). map (is_global c.args.parts.now) (range_with_len 0 c.loop-r.r) ++ n ∷ []) c.is_global.ensures
      ∙ sym (map-range_with_len_more (is_global c.args.parts.now) 0 c.loop-r.r c.loop-r.r (omega arith))));
  room = c.push_reserved.ensures.capacity ∙ c.loop-r.invariant.room;
}
