use Rattle.std.proofs.Common.{◌≡◌, ◌<◌}
use Rattle.msrp_plan.proofs.Common.{subst, sym}
use Rattle.msrp_run.proofs.Common.{Adds, Holding, Leave, SeatPortModel, claim_in, port_of, port_room}
use Rattle.msrp_run.proofs.Ports.{seat_acts, seat_adds}
use Rattle.msrp_run.proofs.port.SeatPortPort.leave.Goals as goal

pub leave-number-requires-clause-holding : goal.leave-number-requires-clause-holding
leave-number-requires-clause-holding g c =
    let room = subst (λ (p : SeatPortModel). 0 < port_room p.seat c.args._core.0) (sym c.self.view_is) c.requires.room in
    let holding = subst (λ (p : SeatPortModel). claim_in c.args._core.0 (port_of p.core p.seat).calls ≡ Holding c.args._res) (sym c.self.view_is) c.requires.holding in
    (c.args._res, seat_acts _ _ _ c.self.inside.core c.args._core c.self.inside.place c.self.inside.seat (Holding c.args._res) c.self.invariant room holding)

pub invariant_of-self : goal.invariant_of-self
invariant_of-self g c =
    let room = subst (λ (p : SeatPortModel). 0 < port_room p.seat c.args._core.0) (sym c.self.view_is) c.requires.room in
    let holding = subst (λ (p : SeatPortModel). claim_in c.args._core.0 (port_of p.core p.seat).calls ≡ Holding c.args._res) (sym c.self.view_is) c.requires.holding in
    let acts = seat_acts _ _ _ c.self.inside.core c.args._core c.self.inside.place c.self.inside.seat (Holding c.args._res) c.self.invariant room holding in
    (seat_adds _ _ _ c.self.inside.core c.args._core c.self.inside.place c.self.inside.seat c.leave-number.new.seat c.args._res c.leave-number.result Leave c.self.invariant room holding (c.leave-number.ensures.entry c.args._res acts)).1

pub returns : goal.returns
returns g c =
    let room = subst (λ (p : SeatPortModel). 0 < port_room p.seat c.args._core.0) (sym c.self.view_is) c.requires.room in
    let holding = subst (λ (p : SeatPortModel). claim_in c.args._core.0 (port_of p.core p.seat).calls ≡ Holding c.args._res) (sym c.self.view_is) c.requires.holding in
    let acts = seat_acts _ _ _ c.self.inside.core c.args._core c.self.inside.place c.self.inside.seat (Holding c.args._res) c.self.invariant room holding in
    let both = seat_adds _ _ _ c.self.inside.core c.args._core c.self.inside.place c.self.inside.seat c.leave-number.new.seat c.args._res c.leave-number.result Leave c.self.invariant room holding (c.leave-number.ensures.entry c.args._res acts) in
    subst (λ (p : SeatPortModel). Adds c.args._core c.args._res Leave (port_of p.core p.seat) (port_of c.self.inside.core c.leave-number.new.seat)) c.self.view_is both.0
