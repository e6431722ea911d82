use Rattle.std.proofs.Common.{◌∙◌}
use Rattle.msrp_plan.proofs.Common.{Ok, ap, sym, subst, eqb-false}
use Rattle.msrp_plan.specs.declared.ids.CoreId.{CoreId}
use Rattle.msrp_engine.specs.Inside.Kept.{KeepsRows}
use Rattle.msrp_engine.proofs.NextRows.{given-at, given-some}
use Rattle.msrp_engine.proofs.judged.JudgedRows.read_expected.Goals as goal

pub invariant_of-self-clause-kept : goal.invariant_of-self-clause-kept
invariant_of-self-clause-kept g c = let j = c.args.self.now in subst (λ v. KeepsRows v j.auditor.plan j.auditor.cores j.texts j.lasts) (sym c.next_row.ensures.trace.0) j.kept

pub returns-in_default-clause-read : goal.returns-in_default-clause-read
returns-in_default-clause-read g c = λ told known begins e.
    let at = given-at told _ _ c.next_row.result c.in-Some.row c.args.tick c.args.core known c.next_row.ensures.next (c.in_ok-row.was ∙ ap (λ x. Ok x) c.in-Some.is) begins in
    absurd (eqb-false c.in-Some.row.core.0 c.args.core.0 (sym c.eq.ensures ∙ c.if-eq.false) (ap (λ (k : CoreId). k.0) at.1))

pub returns-in_default-2-clause-read : goal.returns-in_default-2-clause-read
returns-in_default-2-clause-read g c = λ told known begins e.
    let at = given-at told _ _ c.next_row.result c.in-Some.row c.args.tick c.args.core known c.next_row.ensures.next (c.in_ok-row.was ∙ ap (λ x. Ok x) c.in-Some.is) begins in
    absurd (c.if-branch-tick.false at.0)

pub returns-in_default-3-clause-read : goal.returns-in_default-3-clause-read
returns-in_default-3-clause-read g c = λ told known begins e. absurd (given-some told _ _ c.next_row.result c.args.tick c.args.core known c.next_row.ensures.next (c.in_ok-row.was ∙ ap (λ x. Ok x) c.in_default.is) begins)
