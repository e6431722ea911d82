use Rattle.msrp_plan.proofs.Common.{sym, subst}
use Rattle.msrp_audit.specs.Audits.{AuditorModel, HasFed, IsDueInAudit, auditor_view}
use Rattle.msrp_audit.proofs.Judging.{awaited}
use Rattle.msrp_audit.proofs.auditor.Auditor.turn_anew.Goals as goal

pub returns-clause-awaits : goal.returns-clause-awaits
returns-clause-awaits c = λ rows fed.
    let a = auditor_view c.self.inside in
    let is_due : IsDueInAudit a c.args.core.0 = subst (λ (b : AuditorModel). IsDueInAudit b c.args.core.0) (sym c.self.view_is) c.requires in
    awaited a c.turn.new.self rows c.args.core.0 c.turn.result is_due c.self.invariant.same (subst (λ (b : AuditorModel). HasFed b rows) (sym c.self.view_is) fed) c.turn.ensures.next c.turn.ensures.stand
