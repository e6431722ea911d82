use Rattle.std.proofs.Common.{◌≡◌, ◌∙◌}
use Rattle.msrp_plan.proofs.Common.{List, Ok, Err, cond, ap, sym, inr, subst}
use Rattle.std.proofs.lemmas.Result.{err_from_is_err_and}
use Rattle.msrp_faults.specs.declared.faults.CliFault.TheVariants.{Write}
use Rattle.msrp_board.specs.Boards.{entries_at}
use Rattle.msrp_merge.specs.Merging.{IsMergeOf}
use Rattle.msrp_merge.specs.Turns.{LogModel}
use Rattle.msrp_run.proofs.Headline.{run_of_board}
use Rattle.msrp_engine.proofs.run.write_run.Goals as goal

pub returns-in_err-write_merged : goal.returns-in_err-write_merged
returns-in_err-write_merged g c =
    let error = err_from_is_err_and c.from_residual-in_err-write_merged.result c.from_residual-in_err-write_merged.ensures.1 in
    let write : c.from_residual-in_err-write_merged.result ≡ Err Write = error.1 ∙ ap (λ e. Err e) error.2 in
    inr (c.in_ok-logs.ensures.plan, c.write_merged.ensures.run, write ∙ sym (ap (λ b. cond b (Err Write) (Ok 0)) c.in_err-write_merged.ensures.fault))

pub write_merged-requires : goal.write_merged-requires
write_merged-requires g c =
    let plan = c.args.plan.now in
    let board = c.in_ok-logs.settled in
    let run = c.in_ok-logs.ensures in
    let merged = subst (λ (l : List LogModel). IsMergeOf plan l (entries_at board.books) c.in_ok-merging.merging) c.deref.ensures.value c.in_ok-merging.ensures in
    record { run = (board, run_of_board plan c.in_ok-logs.logs.items board c.in_ok-merging.merging run.plan run.logs run.aheads run.board run.opened run.done merged) }
