use Rattle.msrp_plan.proofs.Common.{ap, arith, length, length-map-range_with_len, local_ceiling}
use Rattle.msrp_levels.proofs.Stored.{read_number}
use Rattle.msrp_system.proofs.systems.System.local_ceiling.Goals as goal

pub index-requires : goal.index-requires
index-requires c =
    let system = c.self.inside.parts in
    let within = rw (← c.self.view_is) at c.requires in
    let size = length-map-range_with_len (local_ceiling system) 0 (length system.resources) in
    omega (arith, within, size, ap length c.self.invariant.ceilings)

pub returns : goal.returns
returns c =
    let system = c.self.inside.parts in
    rw (← c.self.view_is) (read_number (local_ceiling system) (length system.resources) c.self.inside.ceilings.items c.args.res.0 c.index.result.now (rw (← c.self.view_is) at c.requires) c.self.invariant.ceilings c.index.ensures)
