use Rattle.std.proofs.Common.{◌∙◌}
use Rattle.msrp_plan.proofs.Common.{ap, sym, subst, IsSomeAnd}
use Rattle.msrp_sim.specs.Serving.{is_served}
use Rattle.msrp_sim.proofs.TurnPorts.{IsPollOf, poll_made}
use Rattle.msrp_sim.proofs.turn_port.spin_by.Goals as goal

pub returns-else-grants-clause-repeated : goal.returns-else-grants-clause-repeated
returns-else-grants-clause-repeated c =
    let q = c.args.queues.now in
    let x = c.args.machine.now in
    let res = c.in_ok-res.res in
    let e = c.spin_on.ensures in
    poll_made q x res c.spin_on.new.self c.spin_on.result (subst (λ o. IsSomeAnd o (IsPollOf q x res)) (sym e.known) c.in_ok-res.ensures.poll) (sym c.if-grants.false ∙ (c.grants.ensures ∙ ap (λ k. is_served q k res.0) c.core.ensures)) e.spin e.phase e.turn
