use Rattle.std.proofs.Common.{◌+◌, ◌*◌, ◌∙◌, ◌≡◌, ◌<◌}
use Rattle.msrp_plan.proofs.Common.{ltb, leb, sym, ap, subst}
use Rattle.msrp_board.proofs.Common.{BoardModel, BoardSize, CoreState, SeatModel, Waiting, high, look_of, low, page_after_look}
use Rattle.msrp_board.proofs.Seats.{standing, waiting_page, look_wait, look_go, look_stop, stop_start}
use Rattle.msrp_board.proofs.Kept.{kept_look}
use Rattle.msrp_board.proofs.CoreStates.{seat_step}
use Rattle.msrp_board.proofs.board.Board.look.Goals as goal

pub own-state-requires : goal.own-state-requires
own-state-requires c = let a = standing _ _ _ _ c.seat.inside.table_seat.me _ Waiting c.seat.invariant c.seat.view_is c.requires.waiting in (c.seat.inside.table_seat.me.0, a.core, a.page, a.own)

pub look-found-requires-clause-waiting : goal.look-found-requires-clause-waiting
look-found-requires-clause-waiting c =
    let a = standing _ _ _ _ c.seat.inside.table_seat.me _ Waiting c.seat.invariant c.seat.view_is c.requires.waiting in
    let w = waiting_page _ _ _ a in
    let size : c.seat.inside.size ≡ c.self.inside.table.shared.key = ap (λ (s : SeatModel). s.board.size) c.seat.view_is ∙ ap (λ (b : BoardModel). b.size) (c.requires.board ∙ sym c.self.view_is) ∙ sym c.self.invariant.keyed in
    record { core = a.core; page = a.page; has = a.own.only; out = w.0; left = subst (λ (z : BoardSize). a.page.tick < z.ticks) size w.1 }

pub invariant_of-seat : goal.invariant_of-seat
invariant_of-seat c =
    let a = standing _ _ _ _ c.seat.inside.table_seat.me _ Waiting c.seat.invariant c.seat.view_is c.requires.waiting in
    let o = c.own-state.ensures c.seat.inside.table_seat.me.0 a.core a.page a.own in
    let is = c.finds-look.ensures ∙ ap (λ (x : CoreState). look_of c.self.inside.size.cores c.look-found.result x.tick) o in
    let w = waiting_page _ _ _ a in
    let m = c.self.inside.size.cores in
    let n = c.look-found.result in
    seat_step _ _ _ _ _ _ a.core a.page (page_after_look m n) _ c.seat.invariant a.own.only c.look-found.ensures.looked.0 c.set_own.ensures (c.after_look.ensures a.page m n o is)
    (kept_look _ (ltb 0 (high n)) (leb (1 + m * a.page.tick) (low n)) a.page a.kept w.0 w.1)

pub returns-clause-wait : goal.returns-clause-wait
returns-clause-wait c e =
    let a = standing _ _ _ _ c.seat.inside.table_seat.me _ Waiting c.seat.invariant c.seat.view_is c.requires.waiting in
    let o = c.own-state.ensures c.seat.inside.table_seat.me.0 a.core a.page a.own in
    let is = c.finds-look.ensures ∙ ap (λ (x : CoreState). look_of c.self.inside.size.cores c.look-found.result x.tick) o in
    look_wait _ _ _ _ _ _ _ _ a.core a.page a.own.only (sym is ∙ e) c.look-found.ensures.table c.look-found.ensures.looked.0 c.seat.view_is

pub returns-clause-go : goal.returns-clause-go
returns-clause-go c e =
    let a = standing _ _ _ _ c.seat.inside.table_seat.me _ Waiting c.seat.invariant c.seat.view_is c.requires.waiting in
    let o = c.own-state.ensures c.seat.inside.table_seat.me.0 a.core a.page a.own in
    let is = c.finds-look.ensures ∙ ap (λ (x : CoreState). look_of c.self.inside.size.cores c.look-found.result x.tick) o in
    look_go _ _ _ _ _ _ _ _ a.core a.page a.own.only (sym is ∙ e) c.look-found.ensures.table c.look-found.ensures.looked.0 c.seat.view_is

pub returns-clause-stopped : goal.returns-clause-stopped
returns-clause-stopped c e =
    let a = standing _ _ _ _ c.seat.inside.table_seat.me _ Waiting c.seat.invariant c.seat.view_is c.requires.waiting in
    let o = c.own-state.ensures c.seat.inside.table_seat.me.0 a.core a.page a.own in
    let is = c.finds-look.ensures ∙ ap (λ (x : CoreState). look_of c.self.inside.size.cores c.look-found.result x.tick) o in
    look_stop _ _ _ _ _ _ _ _ a.core a.page a.own.only (sym is ∙ e) c.look-found.ensures.table c.look-found.ensures.looked.0 c.seat.view_is

pub returns-clause-start : goal.returns-clause-start
returns-clause-start c k b e at =
    let a = standing _ _ _ _ c.seat.inside.table_seat.me _ Waiting c.seat.invariant c.seat.view_is c.requires.waiting in
    let o = c.own-state.ensures c.seat.inside.table_seat.me.0 a.core a.page a.own in
    let is = c.finds-look.ensures ∙ ap (λ (x : CoreState). look_of c.self.inside.size.cores c.look-found.result x.tick) o in
    stop_start _ _ a.core _ c.seat.inside.table_seat.me.0 _ k b a.page a.own.only (sym is ∙ e) c.look-found.ensures.looked.1 c.seat.view_is at
