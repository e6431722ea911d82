use Rattle.std.proofs.Common.{◌≡◌, ◌∙◌}
use Rattle.msrp_plan.proofs.Common.{subst, sym, ap, arith}
use Rattle.msrp_run.proofs.Common.{HasAsked, IsStepSince, SeatPortModel, claim_in, port_of}
use Rattle.msrp_run.proofs.OneTurn.{tick_left, port_claims, has_asked, asked_on, has_turned}
use Rattle.msrp_run.proofs.turns.turn_through.Goals as goal

pub prove-unreachable-requires : goal.prove-unreachable-requires
prove-unreachable-requires g c =
    let may = c.requires.may in
    let low = tick_left _ _ _ _ may c.conductor-conductor.ensures.seat in
    let at = c.tick.ensures in
    let last = c.ticks.ensures in
    let ticks = may.log_ticks in
    let over = c.if-prove.true in
    absurd (omega (arith, low, at, last, ticks, over))

pub turn-row-requires-clause-claim : goal.turn-row-requires-clause-claim
turn-row-requires-clause-claim g c =
    subst (λ (p : SeatPortModel). claim_in c.args.machine.now.core (port_of p.core p.seat).calls ≡ c.args.machine.now.phase) (sym c.new-port.ensures) (port_claims _ _ _ _ c.core.result c.requires.may c.core.ensures)

pub returns : goal.returns
returns g c =
    let m = c.args.machine.now in
    let row = c.turn-row.result in
    let old = c.new-port.result in
    let new = c.turn-row.new.port in
    let e = c.turn-row.ensures in
    let is = e.row _ c.requires.may.stands in
    let asked : HasAsked m.plan row (port_of old.core old.seat) (port_of new.core new.seat) = has_asked m.plan row (port_of old.core old.seat) (port_of new.core new.seat) e.call (λ quiet. ap (λ (p : SeatPortModel). port_of p.core p.seat) (e.quiet quiet)) in
    let first : old.seat ≡ c.args.seat = ap (λ (p : SeatPortModel). p.seat) c.new-port.ensures in
    let back : new.seat ≡ c.port.inside.seat = ap (λ (p : SeatPortModel). p.seat) (sym c.port.view_is) in
    let core : old.core.0 ≡ m.core = ap (λ (p : SeatPortModel). p.core.0) c.new-port.ensures ∙ c.core.ensures in
    let at : new.core.0 ≡ m.core = ap (λ (p : SeatPortModel). p.core.0) (sym c.port.view_is) ∙ (c.port.invariant.of_core ∙ c.requires.core) in
    let touches : HasAsked m.plan row (port_of row.core c.args.seat) (port_of row.core c.port.inside.seat) =
    subst (λ s. HasAsked m.plan row (port_of row.core c.args.seat) (port_of row.core s)) back
    (subst (λ s. HasAsked m.plan row (port_of row.core s) (port_of row.core new.seat)) first
    (asked_on m.plan row m.core old.core new.core old.seat new.seat core at is.core asked)) in
    let since : IsStepSince m.core c.args.seat c.port.inside.place c.port.inside.seat =
    subst (λ s. IsStepSince m.core s c.port.inside.place c.port.inside.seat) c.requires.first
    (subst (λ n. IsStepSince n g.B.FirstSeat.first c.port.inside.place c.port.inside.seat) c.requires.core c.port.invariant.since) in
    has_turned c.args.board.now m c.turn-row.new.self c.args.log.now c.push.new.self c.args.seat c.port.inside.seat row c.port.inside.place c.requires.may
    (record { plan = e.plan; core = e.core; is = is; stands = e.stands _ c.requires.may.stands }) since touches c.push.ensures
