use Rattle.msrp_plan.proofs.Common.{List, IfOk, sym, subst}
use Rattle.msrp_plan.specs.declared.rows.Row.{Row as TraceRow}
use Rattle.msrp_audit.specs.Audits.{AuditorModel, HasFed, IsDueInAudit, IsDueRow, auditor_view}
use Rattle.msrp_audit.proofs.Judging.{due_row_if}
use Rattle.msrp_audit.proofs.auditor.Auditor.due_row.Goals as goal

pub returns : goal.returns
returns c =
    let a = auditor_view c.self.inside in
    let is_due : IsDueInAudit a c.args.core.0 = subst (λ (b : AuditorModel). IsDueInAudit b c.args.core.0) (sym c.self.view_is) c.requires in
    subst (λ (b : AuditorModel). IfOk c.next_row.result (λ due. (rows : List TraceRow) → HasFed b rows → IsDueRow b.plan rows c.args.core.0 due)) c.self.view_is
    (due_row_if a c.args.core.0 c.next_row.result is_due c.self.invariant.same c.next_row.ensures.next)
