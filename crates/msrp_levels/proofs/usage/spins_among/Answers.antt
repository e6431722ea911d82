use Rattle.std.proofs.Common.{◌++◌, ◌∷◌, ◌∙◌}
use Rattle.msrp_plan.proofs.Common.{ℕ, [], List, ap, sym, arith, length, map, range_with_len, length-map-range_with_len, map-range_with_len_more}
use Rattle.msrp_levels.specs.Usage.{spin_among}
use Rattle.msrp_levels.proofs.usage.spins_among.Goals as goal

pub push_reserved-requires : goal.push_reserved-requires
push_reserved-requires c =
    let size = ap length c.loop-c.invariant.spins ∙ length-map-range_with_len (spin_among c.args.cores.now) 0 c.loop-c.c in
    omega (arith, size)

pub loop-c-preserved : goal.loop-c-preserved
loop-c-preserved c = record {
  spins = c.push_reserved.ensures.items
      ∙ (ap (λ (xs : List ℕ). xs ++ c.spin_among.result ∷ []) c.loop-c.invariant.spins
      ∙ (ap (λ n. map (spin_among c.args.cores.now) (range_with_len 0 c.loop-c.c) ++ n ∷ []) c.spin_among.ensures
      ∙ sym (map-range_with_len_more (spin_among c.args.cores.now) 0 c.loop-c.c c.loop-c.c (omega arith))));
  room = c.push_reserved.ensures.capacity ∙ c.loop-c.invariant.room;
}
