use Rattle.std.proofs.Common.{◌%◌, ◌+◌, ◌^◌}
use Rattle.msrp_plan.proofs.Common.{arith, sym, subst, none}
use Rattle.msrp_board.proofs.Common.{Aborted, Allows, Ruled, TellsChange, step, view_with_conductor}
use Rattle.msrp_board.proofs.ConductorSteps.{abort_allowed}
use Rattle.msrp_board.proofs.steps.abort.Goals as goal

pub fetch_add-requires : goal.fetch_add-requires
fetch_add-requires c = let b = c.requires.barrier in (
  c.requires.table,
  omega (arith, b.0, b.1),
  subst (λ i. Allows (Ruled c.args.words.now.key) c.args.words.now.table_id.slots c.args.seat.now.id c.args.seat.now.me i (λ n. (n + 4294967296) % 2 ^ 64) (TellsChange (view_with_conductor Aborted) (step c.args.words.now.table_id.slots i 4294967296 0 none) c.args.seat.now.me)) (sym b.0) (abort_allowed c.args.words.now.key _ _ c.args.seat.now.me c.requires.unopened),
)
