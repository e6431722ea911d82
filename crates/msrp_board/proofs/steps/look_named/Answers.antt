use Rattle.std.proofs.Common.{◌∙◌}
use Rattle.msrp_plan.proofs.Common.{arith, sym, subst, none}
use Rattle.msrp_board.proofs.Common.{Allows, Ruled, TellsLook, step}
use Rattle.msrp_board.proofs.BarrierSteps.{look_allowed}
use Rattle.msrp_board.proofs.steps.look_named.Goals as goal

pub load-requires : goal.load-requires
load-requires g c = let b = c.requires.barrier in let r = c.requires.waiting in let k = c.requires.cores in (
  c.requires.table,
  omega (arith, b.0, b.1),
  subst (λ i. Allows (Ruled c.args.words.now.key) c.args.words.now.table_id.slots c.args.seat.now.id c.args.seat.now.me i (λ n. n) (TellsLook g.N.Named.number (step c.args.words.now.table_id.slots i 0 0 none) c.args.seat.now.me)) (sym b.0)
      (subst (λ m. Allows (Ruled c.args.words.now.key) c.args.words.now.table_id.slots c.args.seat.now.id c.args.seat.now.me c.args.words.now.key.resources (λ n. n) (TellsLook m (step c.args.words.now.table_id.slots c.args.words.now.key.resources 0 0 none) c.args.seat.now.me)) (k.1 ∙ sym k.0)
      (look_allowed c.args.words.now.key _ _ c.args.seat.now.me r.core r.page r.has r.out r.left)),
)
