use Rattle.std.proofs.Common.{◌∙◌}
use Rattle.msrp_plan.proofs.Common.{arith, sym, subst, none}
use Rattle.msrp_board.proofs.Common.{Allows, Ruled, TellsRule, step}
use Rattle.msrp_board.proofs.Moments.{confirm_allowed}
use Rattle.msrp_board.proofs.steps.confirm_named.Goals as goal

pub load-requires : goal.load-requires
load-requires g c = let b = c.requires.barrier in let k = c.requires.size in (
  c.requires.table,
  omega (arith, b.0, b.1),
  subst (λ z. Allows (Ruled c.args.words.now.key) c.args.words.now.table_id.slots c.args.seat.now.id c.args.seat.now.me c.args.barrier (λ n. n) (TellsRule z (step c.args.words.now.table_id.slots c.args.barrier 0 0 none) c.args.seat.now.me)) (k.1 ∙ sym k.0)
      (confirm_allowed c.args.words.now.key _ _ c.args.barrier c.args.seat.now.me),
)
