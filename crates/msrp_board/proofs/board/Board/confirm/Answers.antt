use Rattle.std.proofs.Common.{◌∙◌, ◌≡◌}
use Rattle.msrp_plan.proofs.Common.{sym, ap}
use Rattle.msrp_board.proofs.Common.{BoardModel, SeatModel}
use Rattle.msrp_board.proofs.Moments.{stands}
use Rattle.msrp_board.proofs.board.Board.confirm.Goals as goal

pub returns-clause-stands : goal.returns-clause-stands
returns-clause-stands c =
    let size : c.seat.inside.size ≡ c.self.inside.size = ap (λ (s : SeatModel). s.board.size) c.seat.view_is ∙ ap (λ (b : BoardModel). b.size) (c.requires.board ∙ sym c.self.view_is) in
    stands c.self.inside.size _ _ c.seat.inside.table_seat.me _ (sym size) c.seat.view_is c.confirm.ensures.told
