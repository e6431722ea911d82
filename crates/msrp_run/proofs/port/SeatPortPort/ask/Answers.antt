use Rattle.std.proofs.Common.{◌≡◌, ◌<◌, ◌∙◌}
use Rattle.msrp_plan.proofs.Common.{subst, sym, ap}
use Rattle.msrp_run.proofs.Common.{Adds, Ask, Free, SeatPortModel, asked, claim_in, port_of, port_room}
use Rattle.msrp_run.proofs.Ports.{seat_acts, seat_adds}
use Rattle.msrp_run.proofs.port.SeatPortPort.ask.Goals.{then-asked-eq0, else-asked-eq0}
use Rattle.msrp_run.proofs.port.SeatPortPort.ask.Goals as goal

pub ask-asked-requires-clause-free : goal.ask-asked-requires-clause-free
ask-asked-requires-clause-free g c =
    let room = subst (λ (p : SeatPortModel). 0 < port_room p.seat c.args._core.0) (sym c.self.view_is) c.requires.room in
    let free = subst (λ (p : SeatPortModel). claim_in c.args._core.0 (port_of p.core p.seat).calls ≡ Free) (sym c.self.view_is) c.requires.free in
    seat_acts _ _ _ c.self.inside.core c.args._core c.self.inside.place c.self.inside.seat Free c.self.invariant room free

pub invariant_of-self : goal.invariant_of-self
invariant_of-self g c =
    let room = subst (λ (p : SeatPortModel). 0 < port_room p.seat c.args._core.0) (sym c.self.view_is) c.requires.room in
    let free = subst (λ (p : SeatPortModel). claim_in c.args._core.0 (port_of p.core p.seat).calls ≡ Free) (sym c.self.view_is) c.requires.free in
    (seat_adds _ _ _ c.self.inside.core c.args._core c.self.inside.place c.self.inside.seat c.ask-asked.new.seat c.args.res c.ask-asked.result.place (Ask c.ask-asked.result.ahead) c.self.invariant room free c.ask-asked.ensures.entry).1

pub returns-clause-call : goal.returns-clause-call
returns-clause-call g c =
    let room = subst (λ (p : SeatPortModel). 0 < port_room p.seat c.args._core.0) (sym c.self.view_is) c.requires.room in
    let free = subst (λ (p : SeatPortModel). claim_in c.args._core.0 (port_of p.core p.seat).calls ≡ Free) (sym c.self.view_is) c.requires.free in
    let both = seat_adds _ _ _ c.self.inside.core c.args._core c.self.inside.place c.self.inside.seat c.ask-asked.new.seat c.args.res c.ask-asked.result.place (Ask c.ask-asked.result.ahead) c.self.invariant room free c.ask-asked.ensures.entry in
    let reply : Ask c.ask-asked.result.ahead ≡ asked c.if-asked-eq0.result = elim c.if-asked-eq0.branch [
      | then-asked-eq0 w ↦ ap Ask w.if-asked-eq0.true ∙ sym (ap asked w.result-is)
      | else-asked-eq0 w ↦ sym (ap asked w.result-is)
    ] in
    subst (λ (p : SeatPortModel). Adds c.args._core c.args.res (asked c.if-asked-eq0.result) (port_of p.core p.seat) (port_of c.self.inside.core c.ask-asked.new.seat)) c.self.view_is
    (subst (λ call. Adds c.args._core c.args.res call (port_of c.self.inside.core c.self.inside.seat) (port_of c.self.inside.core c.ask-asked.new.seat)) reply both.0)
