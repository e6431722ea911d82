use Rattle.std.proofs.Common.{◌%◌, ◌+◌, ◌^◌}
use Rattle.msrp_plan.proofs.Common.{arith, sym, subst, none}
use Rattle.msrp_board.proofs.Common.{Allows, Ruled, TellsChange, page_with_arrival, step, with_pages}
use Rattle.msrp_board.proofs.BarrierSteps.{arrive_allowed}
use Rattle.msrp_board.proofs.steps.arrive.Goals as goal

pub fetch_add-requires : goal.fetch_add-requires
fetch_add-requires c = let b = c.requires.barrier in let r = c.requires.admitted in (
  c.requires.table,
  omega (arith, b.0, b.1),
  subst (λ i. Allows (Ruled c.args.words.now.key) c.args.words.now.table_id.slots c.args.seat.now.id c.args.seat.now.me i (λ n. (n + 1) % 2 ^ 64) (TellsChange (with_pages page_with_arrival) (step c.args.words.now.table_id.slots i 1 0 none) c.args.seat.now.me)) (sym b.0) (arrive_allowed c.args.words.now.key _ _ c.args.seat.now.me r.core r.page r.has r.admitted),
)
