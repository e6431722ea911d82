use Rattle.std.proofs.Common.{◌∙◌}
use Rattle.msrp_plan.proofs.Common.{ap, sym}
use Rattle.msrp_event_text.specs.StateTexts.{state_described}
use Rattle.msrp_event_text.proofs.LeftRecords.{none-left, one-left}
use Rattle.msrp_event_text.proofs.Starting.{described-goes}
use Rattle.msrp_event_text.proofs.states.assume_all.Goals as goal

pub returns-then-not-branch-clause-state : goal.returns-then-not-branch-clause-state
returns-then-not-branch-clause-state g c = λ all known ok.
    let it = c.loop-number.invariant.3 all known in
    let none = none-left it.0 _ _ _ (c.in_ok-read.ensures.next it.0 it.1) c.if-not-branch.true in
    sym it.2 ∙ ap (state_described c.args.auditor.now.system c.loop-number.auditor.state) none

pub loop-number-preserved : goal.loop-number-preserved
loop-number-preserved g c =
    let kept = c.loop-number.invariant in (
      c.assume.ensures.system ∙ kept.0,
      c.assume.ensures.tolerances ∙ kept.1,
      c.assume.ensures.finding ∙ kept.2,
      λ all known.
          let it = kept.3 all known in
          let one = one-left it.0 _ _ _ (c.in_ok-read.ensures.next it.0 it.1) c.if-not-branch.false in (
            one.0,
            one.2,
            described-goes _ _ kept.0 _ _ it.0 _ one.0 one.1 (c.assume.ensures.state c.in_ok-assume.was) ∙ it.2,
          ),
    )
