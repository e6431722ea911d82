use Rattle.std.proofs.Common.{◌+◌, ◌∙◌}
use Rattle.msrp_plan.proofs.Common.{ap, sym, subst, arith, option_or, common_steps}
use Rattle.msrp_sim.specs.Cores.{AreNew}
use Rattle.msrp_sim.proofs.Starting.{new_more}
use Rattle.msrp_sim.proofs.cores.machines_of.Goals as goal

pub loop-core-preserved : goal.loop-core-preserved
loop-core-preserved c =
    let e = c.in_ok-with_room.ensures in (
      subst (AreNew c.args.plan.now (c.loop-core.core + 1)) (sym c.push_reserved.ensures.items) (new_more c.args.plan.now c.loop-core.core c.loop-core.machines.items c.in_ok-with_room.field-0 c.loop-core.invariant.0 (record { plan_is = e.plan; core = e.core; stands = e.stands; known = ap (λ o. option_or o c.in_ok-with_room.field-0.spin) e.again ∙ e.spin })),
      grind (arith, common_steps, c.loop-core.invariant.1, c.push_reserved.ensures.capacity),
    )
