use Rattle.msrp_plan.proofs.Common.{sym, subst}
use Rattle.msrp_text_tests.specs.declared.board.Player.{Player}
use Rattle.msrp_board.specs.Seats.{IsCoreSeatOn}
use Rattle.msrp_text_tests.proofs.board.play.Goals as goal
use Rattle.msrp_text_tests.proofs.board.play.Goals.{then-eq, else-eq}

pub loop-preserved : goal.loop-preserved
loop-preserved g c = elim c.if-eq.branch [
  | then-eq w ↦ subst (λ (p : Player). IsCoreSeatOn c.args.board.now p.seat) (sym w.player-is) w.arrive.ensures
  | else-eq w ↦ subst (λ (p : Player). IsCoreSeatOn c.args.board.now p.seat) (sym w.player-is) c.look.ensures.seat
]
