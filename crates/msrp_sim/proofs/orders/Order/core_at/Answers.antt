use Rattle.std.proofs.Common.{◌+◌, ◌*◌, ◌∙◌}
use Rattle.msrp_plan.proofs.Common.{sym, ap, get_or}
use Rattle.msrp_sim.specs.Orders.{cores_of}
use Rattle.msrp_sim.proofs.Rounds.{turn_in, rising_by}
use Rattle.msrp_sim.proofs.orders.Order.core_at.Goals as goal

pub returns-in-Asc : goal.returns-in-Asc
returns-in-Asc c =
    let turn = c.args.at.now.tick * c.args.plan.now.cores + c.args.at.now.place in
    turn_in (λ t i. i) c.args.plan.now c.args.at.now.tick c.args.at.now.place c.requires.place c.requires.tick
    ∙ (ap (λ l. get_or l turn 0) (sym (rising_by c.args.plan.now)) ∙ ap (λ o. get_or (cores_of o c.args.plan.now) turn 0) (sym c.in-Asc.is))
