use Rattle.std.proofs.Common.{◌≡◌}
use Rattle.msrp_plan.proofs.Common.{List, Some, IfSome, sym, subst}
use Rattle.msrp_plan.specs.declared.rows.Row.{Row as TraceRow}
use Rattle.msrp_audit.specs.Audits.{AuditorModel, HasFed, IsDueInAudit, Awaits, auditor_view}
use Rattle.msrp_sim.specs.Cores.{known_row}
use Rattle.msrp_sim.specs.TurnPorts.{unless_granted}
use Rattle.msrp_sim.proofs.Repeating.{known_if}
use Rattle.msrp_audit.proofs.Judging.{awaited_if}
use Rattle.msrp_audit.proofs.auditor.Auditor.repeat.Goals as goal

pub returns-clause-awaits : goal.returns-clause-awaits
returns-clause-awaits c =
    let a = auditor_view c.self.inside in
    let is_due : IsDueInAudit a c.args.core.0 = subst (λ (b : AuditorModel). IsDueInAudit b c.args.core.0) (sym c.self.view_is) c.requires in
    let P : AuditorModel → Type 0 = λ b. IfSome c.repeat.result (λ due. (rows : List TraceRow) → HasFed b rows → Awaits (record a { cores = c.repeat.new.self }) rows c.args.core.0 due) in
    subst P c.self.view_is (awaited_if a c.repeat.new.self c.args.core.0 c.repeat.result is_due c.self.invariant.same c.repeat.ensures.next c.repeat.ensures.stand)

pub returns-clause-known : goal.returns-clause-known
returns-clause-known c =
    let a = auditor_view c.self.inside in
    subst (λ (b : AuditorModel). IfSome c.repeat.result (λ due. known_row b.cores c.args.core.0 ≡ Some due)) c.self.view_is (known_if a.cores.queues c.args.core.0 c.repeat.result (known_row a.cores c.args.core.0) c.repeat.ensures.known)

pub returns-clause-repeats : goal.returns-clause-repeats
returns-clause-repeats c = subst (λ (b : AuditorModel). c.repeat.result ≡ unless_granted b.cores.queues c.args.core.0 (known_row b.cores c.args.core.0)) c.self.view_is c.repeat.ensures.known
