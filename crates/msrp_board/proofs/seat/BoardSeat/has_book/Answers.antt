use Rattle.std.proofs.Common.{◌∙◌}
use Rattle.msrp_plan.proofs.Common.{ap, sym}
use Rattle.msrp_board.proofs.Common.{SeatModel, book_at, is_some}
use Rattle.msrp_board.proofs.Seats.{is_seat}
use Rattle.msrp_board.proofs.Told.{held_some}
use Rattle.msrp_board.proofs.seat.BoardSeat.has_book.Goals as goal

pub returns-clause-value : goal.returns-clause-value
returns-clause-value c =
    let e = c.has.ensures ∙ held_some _ c.self.inside.table_seat.me.0.pages c.args.core.0 c.self.invariant.states ∙ ap (λ (s : SeatModel). is_some (book_at s c.args.core.0)) c.self.view_is in
    (λ h. sym e ∙ h, λ h. e ∙ h)

pub returns-clause-seat : goal.returns-clause-seat
returns-clause-seat c = is_seat _ _ _ _ _ _ c.self.invariant c.self.view_is
