use Rattle.std.proofs.Common.{◌∙◌}
use Rattle.msrp_plan.proofs.Common.{ap, arith, length, slice_index_or, get_or-map-range_with_len, length-map-range_with_len, is_global, List, Bool}
use Rattle.msrp_system.proofs.systems.System.is_global.Goals as goal

pub returns-then-place-known : goal.returns-then-place-known
returns-then-place-known c =
    let system = c.self.inside.parts in
    let size = ap length c.self.invariant.globals ∙ length-map-range_with_len (is_global system) 0 (length system.resources) in
    rw (← c.self.view_is) (c.index.ensures ∙ (ap (λ (xs : List Bool). slice_index_or xs c.args.res.0 c.index.result.now) c.self.invariant.globals ∙ get_or-map-range_with_len (is_global system) 0 (length system.resources) c.args.res.0 c.args.res.0 c.index.result.now (omega arith) (omega arith)))
