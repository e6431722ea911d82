use Rattle.std.proofs.Common.{◌+◌, ◌<◌, ◌==◌, ◌∙◌, ◌≡◌}
use Rattle.msrp_plan.proofs.Common.{refl, sym, ap, subst}
use Rattle.msrp_board.proofs.Common.{BoardModel, BoardSize, IsBehind, Poll, Queued, ResId, SeatModel, with_entry}
use Rattle.msrp_board.proofs.Seats.{acting, claiming, waits_state, waits_res, entered_held, entered_seen, entered_behind}
use Rattle.msrp_board.proofs.board.Board.poll.Goals as goal

pub own-state-requires : goal.own-state-requires
own-state-requires c = let a = acting _ _ _ _ c.seat.inside.table_seat.me _ (Queued c.requires.queued.0) c.seat.invariant c.seat.view_is c.requires.queued.1 in (c.seat.inside.table_seat.me.0, a.core, a.page, a.own)

pub unreachable-requires : goal.unreachable-requires
unreachable-requires c =
    let k = claiming _ _ _ _ c.seat.inside.table_seat.me _ (Queued c.requires.queued.0) c.own-state.result c.own-state.result.claim c.seat.invariant c.seat.view_is c.requires.queued.1 (c.own-state.ensures c.seat.inside.table_seat.me.0) refl in
    let w = waits_state _ _ _ _ _ _ k in c.in_default.not-Waits _ w.0 w.1

pub poll-word-requires-clause-res : goal.poll-word-requires-clause-res
poll-word-requires-clause-res c =
    let k = claiming _ _ _ _ c.seat.inside.table_seat.me _ (Queued c.requires.queued.0) c.own-state.result _ c.seat.invariant c.seat.view_is c.requires.queued.1 (c.own-state.ensures c.seat.inside.table_seat.me.0) c.in-Waits.is in
    let size : c.seat.inside.size ≡ c.self.inside.table.shared.key = ap (λ (s : SeatModel). s.board.size) c.seat.view_is ∙ ap (λ (b : BoardModel). b.size) (c.requires.board ∙ sym c.self.view_is) ∙ sym c.self.invariant.keyed in
    (subst (λ (z : BoardSize). c.in-Waits.res < z.resources) size k.below, c.self.invariant.words ∙ ap (λ (z : BoardSize). z.resources + 1) (sym c.self.invariant.keyed))

pub poll-word-requires-clause-queued : goal.poll-word-requires-clause-queued
poll-word-requires-clause-queued c = let k = claiming _ _ _ _ c.seat.inside.table_seat.me _ (Queued c.requires.queued.0) c.own-state.result _ c.seat.invariant c.seat.view_is c.requires.queued.1 (c.own-state.ensures c.seat.inside.table_seat.me.0) c.in-Waits.is in record { at = record { core = k.act.core; page = k.act.page; has = k.act.own.only; admitted = k.act.room }; claims = k.claim; quiet = k.act.quiet }

pub invariant_of-seat : goal.invariant_of-seat
invariant_of-seat c =
    let k = claiming _ _ _ _ c.seat.inside.table_seat.me _ (Queued c.requires.queued.0) c.own-state.result _ c.seat.invariant c.seat.view_is c.requires.queued.1 (c.own-state.ensures c.seat.inside.table_seat.me.0) c.in-Waits.is in
    entered_held _ _ _ _ _ _ _ _ _ _ _ c.seat.invariant k.act c.poll-word.ensures.polled c.set_own.ensures (c.with_poll.ensures k.act.page (c.poll-word.result.next + c.poll-word.result.serving) k.is) k.below (_, k.claim)

pub returns-clause-entry : goal.returns-clause-entry
returns-clause-entry c g may =
    let k = claiming _ _ _ _ c.seat.inside.table_seat.me _ (Queued g) c.own-state.result _ c.seat.invariant c.seat.view_is may (c.own-state.ensures c.seat.inside.table_seat.me.0) c.in-Waits.is in
    entered_seen _ _ _ _ _ _ _ _ _ c.poll-word.ensures.table c.poll-word.ensures.polled c.seat.view_is ∙ ap (λ (r : ResId). with_entry r (c.poll-word.result.next + c.poll-word.result.serving) (Poll (c.poll-word.result.serving == c.in-Waits.ticket)) c.args.seat.now) (waits_res c.in-Waits.res c.in-Waits.ticket g k.locks)

pub returns-clause-behind : goal.returns-clause-behind
returns-clause-behind c g may =
    let k = claiming _ _ _ _ c.seat.inside.table_seat.me _ (Queued g) c.own-state.result _ c.seat.invariant c.seat.view_is may (c.own-state.ensures c.seat.inside.table_seat.me.0) c.in-Waits.is in
    subst (λ (r : ResId). IsBehind r.0 (c.poll-word.result.next + c.poll-word.result.serving) c.args.seat.now) (waits_res c.in-Waits.res c.in-Waits.ticket g k.locks) (entered_behind _ _ _ _ _ _ _ c.seat.view_is c.poll-word.ensures.polled)
