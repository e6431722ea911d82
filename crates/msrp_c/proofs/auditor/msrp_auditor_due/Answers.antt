use Rattle.std.proofs.Common.{◌≡◌, ◌∙◌}
use Rattle.msrp_plan.proofs.Common.{Some, ap, subst, sym}
use Rattle.msrp_c.specs.Feeding.{HoldsFed}
use Rattle.msrp_c.specs.declared.content.Content.{Content}
use Rattle.msrp_c.proofs.auditor.msrp_auditor_due.Goals as goal

pub returns-in-Ok-clause-row : goal.returns-in-Ok-clause-row
returns-in-Ok-clause-row c = λ plan turns h good.
    let is : Some c.deref.result.now ≡ c.args.auditor.now.value = ap (λ (x : Content). Some x) c.deref.ensures ∙ c.in-Some.ensures.taken in
    record { due = c.in-Ok.due; is = c.in-Ok.ensures.row plan turns (subst (HoldsFed plan turns) (sym is) h); numbers_are = c.numbers_of_row.ensures }
