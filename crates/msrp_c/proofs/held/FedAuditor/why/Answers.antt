use Rattle.std.proofs.Common.{◌≡◌, ◌∙◌}
use Rattle.msrp_plan.proofs.Common.{IsSomeAnd, Ok, Err, ap, subst, sym}
use Rattle.msrp_c.specs.Feeding.{IsBrokenIn, found_so_far}
use Rattle.msrp_c.proofs.Reasons.{on-row}
use Rattle.msrp_c.proofs.held.FedAuditor.why.Goals as goal

pub returns-in-Some : goal.returns-in-Some
returns-in-Some c = λ plan turns h.
    let fault = c.in-Ok-Err.fault in
    let inner : c.in-Ok-Err.field-0 ≡ Err fault = rw c.in-Ok-Err.is at c.in-Ok-Err.field-0-is in
    let found : c.args.self.now.verdict ≡ Ok (Err fault) = c.in-Ok-Err.is ∙ ap (λ x. Ok x) inner in
    let kept = subst (λ o. IsSomeAnd o (IsBrokenIn plan turns fault)) c.in-Some.is (h.broken fault found) in
    on-row (found_so_far plan turns) fault c.in-Some.kept.broken.fault c.why_of_row.result (sym h.is.so_far ∙ found) kept.is.told c.why_of_row.ensures.found c.why_of_row.ensures.words c.why_of_row.ensures.memory

pub returns-in-None : goal.returns-in-None
returns-in-None c = λ plan turns h.
    let fault = c.in-Ok-Err.fault in
    let inner : c.in-Ok-Err.field-0 ≡ Err fault = rw c.in-Ok-Err.is at c.in-Ok-Err.field-0-is in
    absurd (subst (λ o. IsSomeAnd o (IsBrokenIn plan turns fault)) c.in-None.is (h.broken fault (c.in-Ok-Err.is ∙ ap (λ x. Ok x) inner)))
