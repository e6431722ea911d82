use Rattle.std.proofs.Common.{◌≡◌, ◌+◌, ◌-◌, ◌*◌, ◌%◌, ◌∙◌}
use Rattle.msrp_plan.proofs.Common.{length, sym, ap, subst, arith, mul_comm, get_or}
use Rattle.msrp_sim.specs.Orders.{cores_of}
use Rattle.msrp_sim.proofs.Rounds.{turn_in, rising_by, within_ticks}
use Rattle.msrp_sim.proofs.orders.Order.core_in_order.Goals as goal

pub returns-in-Asc : goal.returns-in-Asc
returns-in-Asc c =
    let turn = c.args.at.now.tick * c.args.plan.now.cores + c.args.at.now.place in
    turn_in (λ t i. i) c.args.plan.now c.args.at.now.tick c.args.at.now.place c.requires.place c.requires.tick
    ∙ (ap (λ l. get_or l turn 0) (sym (rising_by c.args.plan.now)) ∙ ap (λ o. get_or (cores_of o c.args.plan.now) turn 0) (sym c.in-Asc.is))

pub returns-in-Desc : goal.returns-in-Desc
returns-in-Desc c =
    let turn = c.args.at.now.tick * c.args.plan.now.cores + c.args.at.now.place in
    ap (λ m. m - (c.args.at.now.place + 1)) c.cores-cores.ensures.value
    ∙ (turn_in (λ t i. c.args.plan.now.cores - (i + 1)) c.args.plan.now c.args.at.now.tick c.args.at.now.place c.requires.place c.requires.tick
    ∙ ap (λ o. get_or (cores_of o c.args.plan.now) turn 0) (sym c.in-Desc.is))

pub returns-in-Rot : goal.returns-in-Rot
returns-in-Rot c =
    let turn = c.args.at.now.tick * c.args.plan.now.cores + c.args.at.now.place in
    ap (λ m. (c.args.at.now.tick + c.args.at.now.place) % m) c.cores-cores.ensures.value
    ∙ (turn_in (λ t i. (t + i) % c.args.plan.now.cores) c.args.plan.now c.args.at.now.tick c.args.at.now.place c.requires.place c.requires.tick
    ∙ ap (λ o. get_or (cores_of o c.args.plan.now) turn 0) (sym c.in-Rot.is))

pub listed-requires : goal.listed-requires
listed-requires c =
    let at = within_ticks c.args.plan.now.cores c.args.at.now.tick c.args.at.now.place c.args.plan.now.ticks c.requires.tick c.requires.place in
    let size = subst (λ o. length (cores_of o c.args.plan.now) ≡ c.args.plan.now.cores * c.args.plan.now.ticks) c.in-Given.is c.requires.order.size in
    let turns = mul_comm c.args.plan.now.cores c.args.plan.now.ticks in
    let told = ap (λ m. c.args.at.now.tick * m + c.args.at.now.place) c.cores-cores.ensures.value in
    omega (arith, at, size, turns, told)

pub overflow_add-result-in-Rot : goal.overflow_add-result-in-Rot
overflow_add-result-in-Rot c =
    let draft = c.cores-cores.ensures.plan.draft in
    omega (arith, c.requires.tick, c.requires.place, draft.ticks.1, draft.cores.1)
