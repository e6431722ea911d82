use Rattle.std.proofs.Common.{◌≡◌, ◌∙◌}
use Rattle.msrp_plan.proofs.Common.{ℕ, Some, ap, subst, slice_get}
use Rattle.msrp_board.specs.Seats.{SeatModel, book_at}
use Rattle.msrp_board.specs.Steps.{both}
use Rattle.msrp_thread_tests.proofs.Stepping.{AreLeft, has_left}
use Rattle.msrp_thread_tests.proofs.run.stepping.merged.Goals as goal

pub merge-requires-clause-logs : goal.merge-requires-clause-logs
merge-requires-clause-logs c =
    let first = c.args.zero.0 in
    let second = c.args.one.0 in
    let seat = c.args.zero.1 in
    let other = c.args.one.1 in
    let rest = c.args.others in
    let whole = c.settle-settled.result in
    let e = c.settle-settled.ensures in
    let joined : c.join-others-2.result ≡ both other (both seat rest) = c.join-others-2.ensures.both ∙ ap (both other) c.join-others.ensures.both in
    let left : AreLeft c.args.board c.args.plan.now first second seat other rest = record { cores = c.requires.cores; size = c.requires.size; rest_has = c.requires.rest; zero = c.requires.zero; one = c.requires.one } in
    let run =
    has_left c.args.board c.args.plan.now first second seat other rest whole left
    (λ (k : ℕ). subst (λ (s : SeatModel). book_at s k ≡ slice_get whole.books k) joined (e.books k))
    (subst (λ (s : SeatModel). s.conductor ≡ Some whole.conductor) joined e.conductor) e.running (e.size ∙ c.requires.size) e.tied in
    run.logs_are
