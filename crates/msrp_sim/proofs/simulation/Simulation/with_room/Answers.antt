use Rattle.std.proofs.Common.{◌≡◌, ◌+◌, ◌*◌}
use Rattle.msrp_plan.proofs.Common.{[], ap, arith, refl, subst, take, IsPlan}
use Rattle.msrp_sim.specs.Orders.{cores_of}
use Rattle.msrp_sim.proofs.simulation.Simulation.with_room.Goals as goal

pub invariant_of-result : goal.invariant_of-result
invariant_of-result c =
    let e = c.in_ok-with_room.ensures {u = tt} in
    let accepted : IsPlan c.args.plan.now = subst IsPlan e.plan e.accepted in
    let none : 0 ≡ 0 * c.args.plan.now.cores + 0 = omega arith in
    record {
      accepted = accepted;
      order = c.requires.order;
      turns = omega arith;
      place = accepted.draft.cores.0;
      rows = [];
      made = record { order = ap (λ n. take n (cores_of c.args.order.now c.args.plan.now)) none; plan = e.plan; stands = e.stand; carries = refl };
    }
