use Rattle.std.proofs.Common.{◌∷◌, ◌≡◌, ◌∙◌}
use Rattle.msrp_plan.proofs.Common.{arith, List, [], get_or, length, sym, ap, subst, length-append, get_or_append_left}
use Rattle.msrp_text_tests.specs.declared.board.Player.{Player}
use Rattle.msrp_board.specs.Seats.{SeatModel, IsCoreSeatOn}
use Rattle.msrp_text_tests.proofs.board.gather.Goals as goal

pub loop-player-preserved : goal.loop-player-preserved
loop-player-preserved c = (
  (λ k d low.
      let items = c.in-Some.ensures.items in
      let same : get_or c.pop.new.self.items k d ≡ get_or c.loop-player.players.items k d = sym (get_or_append_left c.pop.new.self.items (c.in-Some.player ∷ []) d k low) ∙ ap (λ (xs : List Player). get_or xs k d) (sym items) in
      let more = ap length items ∙ length-append c.pop.new.self.items (c.in-Some.player ∷ []) in
      subst (λ (p : Player). IsCoreSeatOn c.args.board.now p.seat) (sym same) (c.loop-player.invariant.0 k d (omega (arith, more, low)))),
  ap (λ (s : SeatModel). s.board) c.join-all.ensures.both ∙ c.loop-player.invariant.1,
)
