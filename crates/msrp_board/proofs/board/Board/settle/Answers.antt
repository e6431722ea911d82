use Rattle.std.proofs.Common.{◌≡◌, ◌∙◌}
use Rattle.msrp_plan.proofs.Common.{arith, sym, ap}
use Rattle.msrp_board.proofs.Common.{BoardModel, SeatModel, book_at, settled_as}
use Rattle.msrp_board.proofs.End.{settles, not_stopped}
use Rattle.msrp_board.proofs.board.Board.settle.Goals as goal

pub free-requires : goal.free-requires
free-requires c k h = let n = c.close_with-closed.ensures.counts.1 in let z = c.self.invariant.no_slot in absurd (omega (arith, h, n, z))

pub invariant_of-result : goal.invariant_of-result
invariant_of-result c =
    let size : c.seat.inside.size ≡ c.self.inside.size = ap (λ (s : SeatModel). s.board.size) c.seat.view_is ∙ ap (λ (b : BoardModel). b.size) (c.requires.board ∙ sym c.self.view_is) in
    record { room = c.self.invariant.limits.resources; tied = (settles _ _ _ _ _ _ _ c.seat.inside.table_seat.me.0 _ _ _ size c.self.invariant.keyed c.self.invariant.limits c.words_of-words.ensures.length c.seat.view_is c.of-last.ensures c.requires.all c.words_of-words.ensures.words c.close_with-closed.ensures.values.2).tied }

pub returns-clause-books : goal.returns-clause-books
returns-clause-books c k =
    let size : c.seat.inside.size ≡ c.self.inside.size = ap (λ (s : SeatModel). s.board.size) c.seat.view_is ∙ ap (λ (b : BoardModel). b.size) (c.requires.board ∙ sym c.self.view_is) in
    ap (λ (s : SeatModel). book_at s k) (sym c.of-last.ensures) ∙ (settles _ _ _ _ _ _ _ c.seat.inside.table_seat.me.0 _ _ _ size c.self.invariant.keyed c.self.invariant.limits c.words_of-words.ensures.length c.seat.view_is c.of-last.ensures c.requires.all c.words_of-words.ensures.words c.close_with-closed.ensures.values.2).books k

pub returns-clause-conductor : goal.returns-clause-conductor
returns-clause-conductor c =
    let size : c.seat.inside.size ≡ c.self.inside.size = ap (λ (s : SeatModel). s.board.size) c.seat.view_is ∙ ap (λ (b : BoardModel). b.size) (c.requires.board ∙ sym c.self.view_is) in
    ap (λ (s : SeatModel). s.conductor) (sym c.of-last.ensures) ∙ (settles _ _ _ _ _ _ _ c.seat.inside.table_seat.me.0 _ _ _ size c.self.invariant.keyed c.self.invariant.limits c.words_of-words.ensures.length c.seat.view_is c.of-last.ensures c.requires.all c.words_of-words.ensures.words c.close_with-closed.ensures.values.2).conductor

pub returns-clause-tied : goal.returns-clause-tied
returns-clause-tied c =
    let size : c.seat.inside.size ≡ c.self.inside.size = ap (λ (s : SeatModel). s.board.size) c.seat.view_is ∙ ap (λ (b : BoardModel). b.size) (c.requires.board ∙ sym c.self.view_is) in
    (settles _ _ _ _ _ _ _ c.seat.inside.table_seat.me.0 _ _ _ size c.self.invariant.keyed c.self.invariant.limits c.words_of-words.ensures.length c.seat.view_is c.of-last.ensures c.requires.all c.words_of-words.ensures.words c.close_with-closed.ensures.values.2).tied

pub returns-clause-running : goal.returns-clause-running
returns-clause-running c k b opened at =
    let size : c.seat.inside.size ≡ c.self.inside.size = ap (λ (s : SeatModel). s.board.size) c.seat.view_is ∙ ap (λ (b : BoardModel). b.size) (c.requires.board ∙ sym c.self.view_is) in
    not_stopped (settled_as c.self.inside.size c.words_of-words.result c.of-last.result.value) k b (settles _ _ _ _ _ _ _ c.seat.inside.table_seat.me.0 _ _ _ size c.self.invariant.keyed c.self.invariant.limits c.words_of-words.ensures.length c.seat.view_is c.of-last.ensures c.requires.all c.words_of-words.ensures.words c.close_with-closed.ensures.values.2).tied opened at
