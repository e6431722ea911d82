use Rattle.std.proofs.Common.{◌<◌, ◌*◌, ◌++◌, ◌∷◌, ◌∙◌}
use Rattle.msrp_plan.proofs.Common.{[], ap, sym, subst, true≢false, PlanModel, fault_in}
use Rattle.msrp_engine.proofs.Judging.{fault-answer, good-answer, turn-as}
use Rattle.msrp_engine.proofs.KeptTexts.{keeps_same}
use Rattle.msrp_engine.proofs.judged.JudgedRows.judge.Goals as goal

pub invariant_of-self-clause-kept : goal.invariant_of-self-clause-kept
invariant_of-self-clause-kept g c =
    let j = c.args.self.now in
    keeps_same j.rows.version j.auditor.plan c.judge.new.self.plan j.auditor.cores c.judge.new.self.cores j.texts j.lasts c.judge.ensures.plan c.judge.ensures.cores j.kept

pub returns-in-Ok-clause-judged : goal.returns-in-Ok-clause-judged
returns-in-Ok-clause-judged g c = λ rows awaits tick.
    let e = c.in-Ok.ensures in
    let fed = e.fed rows awaits tick in (
      fed,
      fed.fault ∙ (ap (λ (p : PlanModel). fault_in p (rows ++ c.args.row ∷ [])) e.plan ∙ good-answer (fault_in c.args.self.now.auditor.plan (rows ++ c.args.row ∷ [])) c.in-Ok.field-0 (e.answer rows awaits tick)),
    )

pub returns-in-Err-clause-judged : goal.returns-in-Err-clause-judged
returns-in-Err-clause-judged g c = λ rows awaits tick.
    let plan = c.args.self.now.auditor.plan in
    let left = subst (λ n. n < plan.cores * plan.ticks) awaits.count c.requires.left in
    let turn = turn-as plan rows c.args.expected c.args.row (sym awaits.next.core) tick awaits.next.legal.turn in
    record {
      fault = fault-answer (fault_in plan (rows ++ c.args.row ∷ [])) c.in-Err.fault (c.in-Err.ensures.answer rows awaits tick);
      turn = λ _ _. awaits.next;
      out = λ o. absurd (true≢false (sym turn ∙ o left));
    }
