use Rattle.std.proofs.Common.{◌+◌, ◌<◌, ◌∙◌, ◌≡◌}
use Rattle.msrp_plan.proofs.Common.{refl, sym, ap, subst}
use Rattle.msrp_board.proofs.Common.{BoardModel, BoardSize, Holding, IsBehind, Leave, ResId, SeatModel, with_entry}
use Rattle.msrp_board.proofs.Seats.{acting, claiming, holds_state, holds_res, entered_held, entered_seen, entered_behind}
use Rattle.msrp_board.proofs.board.Board.leave.Goals as goal

pub own-state-requires : goal.own-state-requires
own-state-requires c = let a = acting _ _ _ _ c.seat.inside.table_seat.me _ (Holding c.requires.holding.0) c.seat.invariant c.seat.view_is c.requires.holding.1 in (c.seat.inside.table_seat.me.0, a.core, a.page, a.own)

pub unreachable-requires : goal.unreachable-requires
unreachable-requires c =
    let k = claiming _ _ _ _ c.seat.inside.table_seat.me _ (Holding c.requires.holding.0) c.own-state.result c.own-state.result.claim c.seat.invariant c.seat.view_is c.requires.holding.1 (c.own-state.ensures c.seat.inside.table_seat.me.0) refl in
    let w = holds_state _ _ _ _ _ _ k in c.in_default.not-Holds _ w.0 w.1

pub leave-word-requires-clause-res : goal.leave-word-requires-clause-res
leave-word-requires-clause-res c =
    let k = claiming _ _ _ _ c.seat.inside.table_seat.me _ (Holding c.requires.holding.0) c.own-state.result _ c.seat.invariant c.seat.view_is c.requires.holding.1 (c.own-state.ensures c.seat.inside.table_seat.me.0) c.in-Holds.is in
    let size : c.seat.inside.size ≡ c.self.inside.table.shared.key = ap (λ (s : SeatModel). s.board.size) c.seat.view_is ∙ ap (λ (b : BoardModel). b.size) (c.requires.board ∙ sym c.self.view_is) ∙ sym c.self.invariant.keyed in
    (subst (λ (z : BoardSize). c.in-Holds.res < z.resources) size k.below, c.self.invariant.words ∙ ap (λ (z : BoardSize). z.resources + 1) (sym c.self.invariant.keyed))

pub leave-word-requires-clause-holding : goal.leave-word-requires-clause-holding
leave-word-requires-clause-holding c = let k = claiming _ _ _ _ c.seat.inside.table_seat.me _ (Holding c.requires.holding.0) c.own-state.result _ c.seat.invariant c.seat.view_is c.requires.holding.1 (c.own-state.ensures c.seat.inside.table_seat.me.0) c.in-Holds.is in (_, record { at = record { core = k.act.core; page = k.act.page; has = k.act.own.only; admitted = k.act.room }; claims = k.claim; quiet = k.act.quiet })

pub invariant_of-seat : goal.invariant_of-seat
invariant_of-seat c =
    let k = claiming _ _ _ _ c.seat.inside.table_seat.me _ (Holding c.requires.holding.0) c.own-state.result _ c.seat.invariant c.seat.view_is c.requires.holding.1 (c.own-state.ensures c.seat.inside.table_seat.me.0) c.in-Holds.is in
    entered_held _ _ _ _ _ _ _ _ _ _ _ c.seat.invariant k.act c.leave-word.ensures.left c.set_own.ensures (c.with_leave.ensures k.act.page c.in-Holds.res (c.leave-word.result.next + c.leave-word.result.serving) k.is) k.below (_, k.claim)

pub returns-clause-entry : goal.returns-clause-entry
returns-clause-entry c g may =
    let k = claiming _ _ _ _ c.seat.inside.table_seat.me _ (Holding g) c.own-state.result _ c.seat.invariant c.seat.view_is may (c.own-state.ensures c.seat.inside.table_seat.me.0) c.in-Holds.is in
    entered_seen _ _ _ _ _ _ _ _ _ c.leave-word.ensures.table c.leave-word.ensures.left c.seat.view_is ∙ ap (λ (r : ResId). with_entry r (c.leave-word.result.next + c.leave-word.result.serving) Leave c.args.seat.now) (holds_res c.in-Holds.res c.in-Holds.ticket g k.locks)

pub returns-clause-behind : goal.returns-clause-behind
returns-clause-behind c g may =
    let k = claiming _ _ _ _ c.seat.inside.table_seat.me _ (Holding g) c.own-state.result _ c.seat.invariant c.seat.view_is may (c.own-state.ensures c.seat.inside.table_seat.me.0) c.in-Holds.is in
    subst (λ (r : ResId). IsBehind r.0 (c.leave-word.result.next + c.leave-word.result.serving) c.args.seat.now) (holds_res c.in-Holds.res c.in-Holds.ticket g k.locks) (entered_behind _ _ _ _ _ _ _ c.seat.view_is c.leave-word.ensures.left)
