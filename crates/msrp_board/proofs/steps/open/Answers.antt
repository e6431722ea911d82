use Rattle.std.proofs.Common.{◌%◌, ◌+◌, ◌^◌}
use Rattle.msrp_plan.proofs.Common.{arith, sym, subst, none}
use Rattle.msrp_board.proofs.Common.{Allows, Opened, Ruled, TellsChange, step, view_with_conductor}
use Rattle.msrp_board.proofs.ConductorSteps.{open_allowed}
use Rattle.msrp_board.proofs.steps.open.Goals as goal

pub fetch_add-requires : goal.fetch_add-requires
fetch_add-requires c = let b = c.requires.barrier in (
  c.requires.table,
  omega (arith, b.0, b.1),
  subst (λ i. Allows (Ruled c.args.words.now.key) c.args.words.now.table_id.slots c.args.seat.now.id c.args.seat.now.me i (λ n. (n + 1) % 2 ^ 64) (TellsChange (view_with_conductor Opened) (step c.args.words.now.table_id.slots i 1 0 none) c.args.seat.now.me)) (sym b.0) (open_allowed c.args.words.now.key _ _ c.args.seat.now.me c.requires.unopened),
)
