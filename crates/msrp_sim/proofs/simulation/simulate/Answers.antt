use Rattle.std.proofs.Common.{◌*◌, ◌∙◌}
use Rattle.msrp_plan.proofs.Common.{ap, arith, IsOrder}
use Rattle.msrp_sim.specs.Orders.{cores_of}
use Rattle.msrp_sim.proofs.NextTurn.{run_in}
use Rattle.msrp_sim.proofs.simulation.simulate.Goals as goal

pub returns-clause-run : goal.returns-clause-run
returns-clause-run c =
    let all = c.turn_all.ensures in
    let order : IsOrder c.args.plan.now (cores_of c.args.order.now c.args.plan.now) = c.is_of.ensures.0 (grind arith) in
    let a = ap (λ m. m * c.ticks.result) c.cores.ensures.value in
    let b = ap (λ t. c.args.plan.now.cores * t) c.ticks.ensures.value in
    run_in c.args.plan.now (cores_of c.args.order.now c.args.plan.now) c.turn_all.new.simulation c.turn_all.new.rows.items order
    (all.plan ∙ c.in_ok-simulation.ensures.plan) (all.order ∙ c.in_ok-simulation.ensures.order) (all.turn ∙ (a ∙ b)) all.made
