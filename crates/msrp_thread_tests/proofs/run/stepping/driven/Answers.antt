use Rattle.msrp_plan.proofs.Common.{subst, sym}
use Rattle.msrp_run.specs.Work.{IsAtWork}
use Rattle.msrp_thread_tests.specs.declared.run.stepping.Core.{Core}
use Rattle.msrp_thread_tests.proofs.Stepping.{at_next}
use Rattle.msrp_thread_tests.proofs.run.stepping.driven.Goals.{then-is_one_first, else-is_one_first}
use Rattle.msrp_thread_tests.proofs.run.stepping.driven.Goals as goal

pub loop-is_one_first-preserved : goal.loop-is_one_first-preserved
loop-is_one_first-preserved g c =
    let was = c.loop-is_one_first.invariant in
    let board = c.args.board.now in
    let plan = c.args._plan.now in
    elim c.if-is_one_first.branch [
      | then-is_one_first w ↦ (
        subst (λ (x : Core). IsAtWork board plan 0 x.machine x.log x.seat) (sym w.zero-is) (at_next _ _ _ _ _ _ _ _ _ was.0 w.turned-zero.ensures),
        subst (λ (x : Core). IsAtWork board plan 1 x.machine x.log x.seat) (sym w.one-is) (at_next _ _ _ _ _ _ _ _ _ was.1 w.turned-one.ensures),
      )
      | else-is_one_first w ↦ (
        subst (λ (x : Core). IsAtWork board plan 0 x.machine x.log x.seat) (sym w.zero-is) (at_next _ _ _ _ _ _ _ _ _ was.0 w.turned-zero-else-is_one_first.ensures),
        subst (λ (x : Core). IsAtWork board plan 1 x.machine x.log x.seat) (sym w.one-is) (at_next _ _ _ _ _ _ _ _ _ was.1 w.turned-one-else-is_one_first.ensures),
      )
    ]
