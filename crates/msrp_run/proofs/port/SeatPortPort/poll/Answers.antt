use Rattle.std.proofs.Common.{◌≡◌, ◌<◌}
use Rattle.msrp_plan.proofs.Common.{subst, sym}
use Rattle.msrp_run.proofs.Common.{Adds, Poll, Queued, SeatPortModel, claim_in, port_of, port_room}
use Rattle.msrp_run.proofs.Ports.{seat_acts, seat_adds}
use Rattle.msrp_run.proofs.port.SeatPortPort.poll.Goals as goal

pub poll-polled-requires-clause-queued : goal.poll-polled-requires-clause-queued
poll-polled-requires-clause-queued g c =
    let room = subst (λ (p : SeatPortModel). 0 < port_room p.seat c.args._core.0) (sym c.self.view_is) c.requires.room in
    let queued = subst (λ (p : SeatPortModel). claim_in c.args._core.0 (port_of p.core p.seat).calls ≡ Queued c.args._res) (sym c.self.view_is) c.requires.queued in
    (c.args._res, seat_acts _ _ _ c.self.inside.core c.args._core c.self.inside.place c.self.inside.seat (Queued c.args._res) c.self.invariant room queued)

pub invariant_of-self : goal.invariant_of-self
invariant_of-self g c =
    let room = subst (λ (p : SeatPortModel). 0 < port_room p.seat c.args._core.0) (sym c.self.view_is) c.requires.room in
    let queued = subst (λ (p : SeatPortModel). claim_in c.args._core.0 (port_of p.core p.seat).calls ≡ Queued c.args._res) (sym c.self.view_is) c.requires.queued in
    let acts = seat_acts _ _ _ c.self.inside.core c.args._core c.self.inside.place c.self.inside.seat (Queued c.args._res) c.self.invariant room queued in
    (seat_adds _ _ _ c.self.inside.core c.args._core c.self.inside.place c.self.inside.seat c.poll-polled.new.seat c.args._res c.poll-polled.result.place (Poll c.poll-polled.result.granted) c.self.invariant room queued (c.poll-polled.ensures.entry c.args._res acts)).1

pub returns : goal.returns
returns g c =
    let room = subst (λ (p : SeatPortModel). 0 < port_room p.seat c.args._core.0) (sym c.self.view_is) c.requires.room in
    let queued = subst (λ (p : SeatPortModel). claim_in c.args._core.0 (port_of p.core p.seat).calls ≡ Queued c.args._res) (sym c.self.view_is) c.requires.queued in
    let acts = seat_acts _ _ _ c.self.inside.core c.args._core c.self.inside.place c.self.inside.seat (Queued c.args._res) c.self.invariant room queued in
    let both = seat_adds _ _ _ c.self.inside.core c.args._core c.self.inside.place c.self.inside.seat c.poll-polled.new.seat c.args._res c.poll-polled.result.place (Poll c.poll-polled.result.granted) c.self.invariant room queued (c.poll-polled.ensures.entry c.args._res acts) in
    subst (λ (p : SeatPortModel). Adds c.args._core c.args._res (Poll c.poll-polled.result.granted) (port_of p.core p.seat) (port_of c.self.inside.core c.poll-polled.new.seat)) c.self.view_is both.0
