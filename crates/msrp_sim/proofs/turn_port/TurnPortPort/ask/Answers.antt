use Rattle.std.proofs.Common.{◌≡◌, ◌<◌, ◌++◌}
use Rattle.msrp_plan.proofs.Common.{sym, subst, IsDueCall}
use Rattle.msrp_plan.specs.declared.units.Phase.TheVariants.{Free}
use Rattle.msrp_core.specs.Ports.{Adds, asked, claim_in}
use Rattle.msrp_sim.specs.Serving.{IsTold}
use Rattle.msrp_sim.specs.TurnPorts.{TurnPortModel, as_calls, port_after}
use Rattle.msrp_sim.proofs.Serving.{asked_in_turn}
use Rattle.msrp_sim.proofs.TurnPorts.{call_with, port_adds}
use Rattle.msrp_sim.proofs.turn_port.TurnPortPort.ask.Goals as goal

pub invariant_of-self : goal.invariant_of-self
invariant_of-self g c =
    let p = c.self.inside in
    let room = subst (λ (m : TurnPortModel). 0 < (port_after g.B.Before.calls m.core m.resources m.call).rooms c.args.core.0) (sym c.self.view_is) c.requires.room in
    let free = subst (λ (m : TurnPortModel). claim_in c.args.core.0 (g.B.Before.calls ++ as_calls m.call) ≡ Free) (sym c.self.view_is) c.requires.free in
    let turn = subst (IsDueCall _ c.args.res) (sym c.request-call.ensures) (asked_in_turn (claim_in c.args.core.0 (g.B.Before.calls ++ as_calls p.call)) c.args.res c.reply-reply.result free) in
    let told = subst (IsTold p.queues.now c.args.core.0 c.args.res.0) (sym c.request-call.ensures) (c.reply-reply.ensures.told c.args.core.0) in
    (port_adds _ _ _ p.core c.args.core p.resources c.args.res c.request-call.result p.call c.self.invariant room turn told).1

pub returns-clause-call : goal.returns-clause-call
returns-clause-call g c =
    let p = c.self.inside in
    let room = subst (λ (m : TurnPortModel). 0 < (port_after g.B.Before.calls m.core m.resources m.call).rooms c.args.core.0) (sym c.self.view_is) c.requires.room in
    let free = subst (λ (m : TurnPortModel). claim_in c.args.core.0 (g.B.Before.calls ++ as_calls m.call) ≡ Free) (sym c.self.view_is) c.requires.free in
    let turn = asked_in_turn (claim_in c.args.core.0 (g.B.Before.calls ++ as_calls p.call)) c.args.res c.reply-reply.result free in
    let told = c.reply-reply.ensures.told c.args.core.0 in
    let both = port_adds _ _ _ p.core c.args.core p.resources c.args.res (asked c.reply-reply.result) p.call c.self.invariant room turn told in
    subst (λ (m : TurnPortModel). Adds c.args.core c.args.res (asked c.reply-reply.result) (port_after g.B.Before.calls m.core m.resources m.call) (port_after g.B.Before.calls p.core p.resources (call_with c.args.core c.args.res c.request-call.result))) c.self.view_is
    (subst (λ call. Adds c.args.core c.args.res (asked c.reply-reply.result) (port_after g.B.Before.calls p.core p.resources p.call) (port_after g.B.Before.calls p.core p.resources (call_with c.args.core c.args.res call))) (sym c.request-call.ensures) both.0)
