use Rattle.msrp_plan.proofs.Common.{refl, sym, subst}
use Rattle.msrp_board.proofs.Seats.{core_own, is_seat}
use Rattle.msrp_board.proofs.Told.{lock_told, acted_told}
use Rattle.msrp_board.proofs.Common.{Shows, state_of}
use Rattle.msrp_board.proofs.seat.BoardSeat.state.Goals as goal

pub own-requires : goal.own-requires
own-requires c = let r = core_own _ _ _ _ _ _ c.self.invariant c.self.view_is c.requires.0 c.requires.1 c.requires.2 in (c.self.inside.table_seat.me.0, c.requires.0, r.0, r.1)

pub returns-clause-shows : goal.returns-clause-shows
returns-clause-shows c k b is =
    let r = core_own _ _ _ _ _ _ c.self.invariant c.self.view_is k b is in
    let o = c.own.ensures c.self.inside.table_seat.me.0 k r.0 r.1 in
    subst (λ s. Shows s b) (sym o) (subst (Shows (state_of r.0)) r.2 (record { tick = refl; lock = sym (lock_told r.0); admitted = refl; stopped = refl; acted = sym (acted_told r.0) }))

pub returns-clause-seat : goal.returns-clause-seat
returns-clause-seat c = is_seat _ _ _ _ _ _ c.self.invariant c.self.view_is
