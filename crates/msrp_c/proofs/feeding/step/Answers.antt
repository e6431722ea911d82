use Rattle.std.proofs.Common.{◌≡◌, ◌++◌, ◌∷◌, ◌∙◌}
use Rattle.msrp_plan.proofs.Common.{[], Some, None, sym, subst}
use Rattle.msrp_audit.specs.Audits.{IsBroken}
use Rattle.msrp_plan.specs.Verdict.{fault_in}
use Rattle.msrp_c.proofs.Streaming.{breaks-so, broken-found, good-found, no-fault, refused-found, same-fault}
use Rattle.msrp_c.proofs.feeding.step.Goals as goal

pub returns-in-Err-clause-steps : goal.returns-in-Err-clause-steps
returns-in-Err-clause-steps c = λ turns same g count. refused-found c.args.plan.now turns _ _ c.args.turn.now c.in-Err.fault c.args.number _ g count (sym c.in-Err.is ∙ c.row_of.ensures) c.from.ensures

pub returns-in-Err-judge-clause-steps : goal.returns-in-Err-judge-clause-steps
returns-in-Err-judge-clause-steps c = λ turns same g count.
    let row = c.in-Ok.row in
    let broken = c.in-Err-judge.ensures.broken g.rows g.fed (no-fault c.args.plan.now turns c.args.auditor.now same g) in
    broken-found c.args.plan.now turns _ _ c.args.turn.now row c.in-Err-judge.found.fault g (sym c.in-Ok.is ∙ c.row_of.ensures) (subst (λ p. fault_in p (g.rows ++ row ∷ []) ≡ Some c.in-Err-judge.found.fault) same broken.fault)

pub returns-in-Err-judge-clause-breaks : goal.returns-in-Err-judge-clause-breaks
returns-in-Err-judge-clause-breaks c = λ turns same g fault is.
    let row = c.in-Ok.row in
    let found = c.in-Err-judge.found in
    let broken = c.in-Err-judge.ensures.broken g.rows g.fed (no-fault c.args.plan.now turns c.args.auditor.now same g) in
    breaks-so c.args.plan.now turns c.args.auditor.now _ c.args.turn.now row fault found g (sym c.in-Ok.is ∙ c.row_of.ensures) (same-fault found.fault fault is) (subst (λ p. IsBroken p g.rows row found.fault found.expected c.judge.new.auditor) same broken)

pub returns-in-Ok-judge-clause-steps : goal.returns-in-Ok-judge-clause-steps
returns-in-Ok-judge-clause-steps c = λ turns same g count.
    let row = c.in-Ok.row in
    let good = c.in-Ok-judge.ensures.good g.rows g.fed (no-fault c.args.plan.now turns c.args.auditor.now same g) in
    good-found c.args.plan.now turns _ _ c.args.turn.now row g (sym c.in-Ok.is ∙ c.row_of.ensures) good.0 (subst (λ p. fault_in p (g.rows ++ row ∷ []) ≡ None) same good.1)
