use Rattle.std.proofs.Common.{◌<◌, ◌∙◌}
use Rattle.msrp_plan.proofs.Common.{sym, ap, subst}
use Rattle.msrp_board.proofs.Common.{BoardModel, Free, SeatModel}
use Rattle.msrp_board.proofs.Seats.{acting, free_claim, entered_held, entered_seen, entered_behind}
use Rattle.msrp_board.proofs.board.Board.ask.Goals as goal

pub own-state-requires : goal.own-state-requires
own-state-requires c = let a = acting _ _ _ _ c.seat.inside.table_seat.me _ Free c.seat.invariant c.seat.view_is c.requires.free in (c.seat.inside.table_seat.me.0, a.core, a.page, a.own)

pub ask-word-requires-clause-free : goal.ask-word-requires-clause-free
ask-word-requires-clause-free c = let a = acting _ _ _ _ c.seat.inside.table_seat.me _ Free c.seat.invariant c.seat.view_is c.requires.free in record { at = record { core = a.core; page = a.page; has = a.own.only; admitted = a.room }; claims = free_claim _ a.claims; quiet = a.quiet }

pub invariant_of-seat : goal.invariant_of-seat
invariant_of-seat c =
    let a = acting _ _ _ _ c.seat.inside.table_seat.me _ Free c.seat.invariant c.seat.view_is c.requires.free in
    let o = c.own-state.ensures c.seat.inside.table_seat.me.0 a.core a.page a.own in
    let in_board : c.args.res.0 < c.seat.inside.size.resources = subst (λ k. c.args.res.0 < k) (sym (ap (λ (s : SeatModel). s.board.size.resources) c.seat.view_is ∙ ap (λ (b : BoardModel). b.size.resources) c.requires.board)) c.requires.res in
    entered_held _ _ _ _ _ _ Free _ _ _ _ c.seat.invariant a c.ask-word.ensures.asked c.set_own.ensures (c.with_ask.ensures a.page o) in_board (free_claim _ a.claims)

pub returns-clause-entry : goal.returns-clause-entry
returns-clause-entry c = entered_seen _ _ _ _ _ _ _ _ _ c.ask-word.ensures.table c.ask-word.ensures.asked c.seat.view_is

pub returns-clause-behind : goal.returns-clause-behind
returns-clause-behind c = entered_behind _ _ _ _ _ _ _ c.seat.view_is c.ask-word.ensures.asked
