use Rattle.msrp_plan.proofs.Common.{ap, arith, length, length-map-range_with_len, top}
use Rattle.msrp_levels.proofs.Stored.{read_number}
use Rattle.msrp_system.proofs.systems.System.top.Goals as goal

pub index-requires : goal.index-requires
index-requires c =
    let system = c.self.inside.parts in
    let within = rw (← c.self.view_is) at c.requires in
    let size = length-map-range_with_len (top system) 0 system.cores in
    omega (arith, within, size, ap length c.self.invariant.tops)

pub returns : goal.returns
returns c =
    let system = c.self.inside.parts in
    rw (← c.self.view_is) (read_number (top system) system.cores c.self.inside.tops.items c.args.core.0 c.index.result.now (rw (← c.self.view_is) at c.requires) c.self.invariant.tops c.index.ensures)
