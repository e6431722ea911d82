use Rattle.std.proofs.Common.{◌*◌, ◌∙◌}
use Rattle.msrp_plan.proofs.Common.{ap, sym, fault_in}
use Rattle.msrp_audit.specs.Audits.{answer_of}
use Rattle.msrp_audit.specs.Inside.Pieces.{length_fault_of}
use Rattle.msrp_audit.proofs.Merging.{due_fault, by_length}
use Rattle.msrp_audit.proofs.parallel.audit_rows.Goals as goal

pub returns-in-Some : goal.returns-in-Some
returns-in-Some g c = λ rows size taken.
    let plan = c.args.plan.now in
    sym (ap answer_of (due_fault plan rows (plan.cores * plan.ticks) c.in-Some.fault (ap (fault_in plan) (sym taken) ∙ (sym c.in_ok-fault.ensures ∙ c.in-Some.is))))

pub returns : goal.returns
returns g c = λ rows size taken.
    let plan = c.args.plan.now in
    let all = plan.cores * plan.ticks in
    let none = sym c.in_ok-fault.ensures ∙ c.in-None.is in
    c.length_fault.ensures ∙ ap answer_of (ap (λ n. length_fault_of n c.args.count) c.due_rows.ensures.rows ∙ (ap (length_fault_of all) size ∙ by_length plan rows (ap (fault_in plan) (sym taken) ∙ none)))
