use Rattle.std.proofs.Common.{◌∙◌}
use Rattle.msrp_sim.specs.CoresView.{cores_view}
use Rattle.msrp_sim.proofs.Copied.{copied_core, copied_next, copied_ticks, copied_resources}
use Rattle.msrp_sim.proofs.cores.Cores.next_row.Goals as goal

pub turn_by-requires-clause-tick : goal.turn_by-requires-clause-tick
turn_by-requires-clause-tick c = copied_ticks (cores_view c.self.inside) c.args.core.0 c.index.result.now c.in_ok-machine.machine c.args.self.now c.self.invariant c.self.view_is c.requires.core c.index.ensures c.in_ok-machine.ensures c.requires.tick

pub turn_by-requires-clause-resources : goal.turn_by-requires-clause-resources
turn_by-requires-clause-resources c = c.resources.ensures.value ∙ copied_resources (cores_view c.self.inside) c.args.core.0 c.index.result.now c.in_ok-machine.machine c.args.self.now c.self.invariant c.self.view_is c.requires.core c.index.ensures c.in_ok-machine.ensures

pub returns-clause-core : goal.returns-clause-core
returns-clause-core c = copied_core (cores_view c.self.inside) c.args.core.0 c.index.result.now c.in_ok-machine.machine c.args.self.now c.self.invariant c.self.view_is c.requires.core c.index.ensures c.in_ok-machine.ensures _ _ _ c.turn_by.ensures

pub returns-clause-next : goal.returns-clause-next
returns-clause-next c = copied_next (cores_view c.self.inside) c.args.core.0 c.index.result.now c.in_ok-machine.machine c.args.self.now c.self.invariant c.self.view_is c.requires.core c.index.ensures c.in_ok-machine.ensures _ _ _ c.turn_by.ensures
