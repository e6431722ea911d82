use Rattle.msrp_plan.proofs.Common.{inl, inr, arith, IsOrder}
use Rattle.msrp_sim.specs.Orders.{cores_of}
use Rattle.msrp_engine.specs.Simulation.{Simulated}
use Rattle.msrp_engine.proofs.SimAnswers.{on_status}
use Rattle.msrp_engine.proofs.sim.write_in_order.Goals as goal

pub returns-clause-answer : goal.returns-clause-answer
returns-clause-answer g c =
    let order : IsOrder c.args.plan.now (cores_of c.args.order.now c.args.plan.now) = c.is_of.ensures.0 (grind arith) in
    elim c.write_sim.ensures.run [
      | inl refused ↦ inl refused
      | inr written ↦ inr (Simulated order written.1 written.2)
    ]

pub returns-clause-written : goal.returns-clause-written
returns-clause-written g c = on_status c.write_sim.result _ (λ status ok.
    let order : IsOrder c.args.plan.now (cores_of c.args.order.now c.args.plan.now) = c.is_of.ensures.0 (grind arith) in
    elim c.write_sim.ensures.run [
      | inl refused ↦ absurd (cc)
      | inr written ↦ record { plan = c.args.plan.now; well_formed = written.0; is_order = order; writes = written.1 }
    ])
