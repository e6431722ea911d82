use Rattle.std.proofs.Common.{◌∙◌, ◌≡◌}
use Rattle.msrp_plan.proofs.Common.{sym, ap}
use Rattle.msrp_board.proofs.Common.{BoardModel, SeatModel}
use Rattle.msrp_board.proofs.SeatParts.{joined_tie, both_is_seat, both_seen}
use Rattle.msrp_board.proofs.board.Board.joined.Goals as goal

pub invariant_of-result : goal.invariant_of-result
invariant_of-result c =
    let size : c.other.inside.size ≡ c.seat.inside.size = ap (λ (s : SeatModel). s.board.size) c.other.view_is ∙ ap (λ (b : BoardModel). b.size) (c.requires.board.1 ∙ sym c.requires.board.0) ∙ ap (λ (s : SeatModel). s.board.size) (sym c.seat.view_is) in
    both_is_seat _ _ _ _ _ _ _ _ c.seat.inside.table_seat.me c.other.inside.table_seat.me _ size c.seat.invariant c.other.invariant c.or.ensures c.join.ensures.both
    (joined_tie _ _ _ c.seat.inside.table_seat.me.0.pages c.other.inside.table_seat.me.0.pages c.and.ensures c.seat.invariant.states c.other.invariant.states)

pub returns : goal.returns
returns c = both_seen _ _ _ _ c.seat.inside.table_seat.me c.other.inside.table_seat.me _ _ _ c.join.ensures.table c.join.ensures.both c.seat.view_is c.other.view_is
