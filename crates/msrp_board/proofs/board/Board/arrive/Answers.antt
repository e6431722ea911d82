use Rattle.std.proofs.Common.{◌<◌}
use Rattle.msrp_plan.proofs.Common.{refl, sym, subst}
use Rattle.msrp_board.proofs.Common.{Admitted, CoreState, page_with_arrival}
use Rattle.msrp_board.proofs.Seats.{standing, admitted_page, arriving, seat_changed}
use Rattle.msrp_board.proofs.CoreStates.{seat_step}
use Rattle.msrp_board.proofs.Kept.{kept_arrival}
use Rattle.msrp_board.proofs.board.Board.arrive.Goals as goal

pub own-state-requires : goal.own-state-requires
own-state-requires c = let a = standing _ _ _ _ c.seat.inside.table_seat.me _ Admitted c.seat.invariant c.seat.view_is c.requires.admitted in (c.seat.inside.table_seat.me.0, a.core, a.page, a.own)

pub arrive-requires-clause-admitted : goal.arrive-requires-clause-admitted
arrive-requires-clause-admitted c = let a = standing _ _ _ _ c.seat.inside.table_seat.me _ Admitted c.seat.invariant c.seat.view_is c.requires.admitted in record { core = a.core; page = a.page; has = a.own.only; admitted = admitted_page _ _ _ a }

pub with_arrival-requires : goal.with_arrival-requires
with_arrival-requires c =
    let a = standing _ _ _ _ c.seat.inside.table_seat.me _ Admitted c.seat.invariant c.seat.view_is c.requires.admitted in
    subst (λ (x : CoreState). x.tick < 20000) (sym (c.own-state.ensures c.seat.inside.table_seat.me.0 a.core a.page a.own)) (arriving _ _ _ c.seat.invariant.limits a).tick

pub invariant_of-seat : goal.invariant_of-seat
invariant_of-seat c =
    let a = standing _ _ _ _ c.seat.inside.table_seat.me _ Admitted c.seat.invariant c.seat.view_is c.requires.admitted in
    let o = c.own-state.ensures c.seat.inside.table_seat.me.0 a.core a.page a.own in
    seat_step _ _ _ _ _ _ a.core a.page page_with_arrival _ c.seat.invariant a.own.only c.arrive.ensures.arrived c.set_own.ensures (c.with_arrival.ensures a.page o (arriving _ _ _ c.seat.invariant.limits a).ticks) (kept_arrival _ a.page a.kept (admitted_page _ _ _ a))

pub returns : goal.returns
returns c = seat_changed _ _ _ _ _ _ page_with_arrival _ (λ b. refl) c.arrive.ensures.table c.arrive.ensures.arrived c.seat.view_is
