use Rattle.std.proofs.Common.{◌≡◌, ◌<◌, ◌++◌}
use Rattle.msrp_plan.proofs.Common.{sym, subst}
use Rattle.msrp_plan.specs.declared.units.Call.TheVariants.{Leave}
use Rattle.msrp_plan.specs.declared.units.Phase.TheVariants.{Holding}
use Rattle.msrp_core.specs.Ports.{Adds, claim_in}
use Rattle.msrp_sim.specs.TurnPorts.{TurnPortModel, as_calls, port_after}
use Rattle.msrp_sim.proofs.TurnPorts.{call_with, port_adds}
use Rattle.msrp_sim.proofs.turn_port.TurnPortPort.leave.Goals as goal

pub invariant_of-self : goal.invariant_of-self
invariant_of-self g c =
    let p = c.self.inside in
    let room = subst (λ (m : TurnPortModel). 0 < (port_after g.B.Before.calls m.core m.resources m.call).rooms c.args.core.0) (sym c.self.view_is) c.requires.room in
    let holding = subst (λ (m : TurnPortModel). claim_in c.args.core.0 (g.B.Before.calls ++ as_calls m.call) ≡ Holding c.args.res) (sym c.self.view_is) c.requires.holding in
    (port_adds _ _ _ p.core c.args.core p.resources c.args.res Leave p.call c.self.invariant room holding tt).1

pub returns : goal.returns
returns g c =
    let p = c.self.inside in
    let room = subst (λ (m : TurnPortModel). 0 < (port_after g.B.Before.calls m.core m.resources m.call).rooms c.args.core.0) (sym c.self.view_is) c.requires.room in
    let holding = subst (λ (m : TurnPortModel). claim_in c.args.core.0 (g.B.Before.calls ++ as_calls m.call) ≡ Holding c.args.res) (sym c.self.view_is) c.requires.holding in
    let both = port_adds _ _ _ p.core c.args.core p.resources c.args.res Leave p.call c.self.invariant room holding tt in
    subst (λ (m : TurnPortModel). Adds c.args.core c.args.res Leave (port_after g.B.Before.calls m.core m.resources m.call) (port_after g.B.Before.calls p.core p.resources (call_with c.args.core c.args.res Leave))) c.self.view_is both.0
