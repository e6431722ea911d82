use Rattle.std.proofs.Common.{◌∙◌}
use Rattle.msrp_plan.proofs.Common.{ap}
use Rattle.msrp_events.specs.Findings.{finding_of}
use Rattle.msrp_event_audit.specs.Auditors.{AuditorModel}
use Rattle.msrp_event_audit.proofs.auditor.LogAuditor.shows.Goals as goal

pub returns : goal.returns
returns c = c.finding_of.ensures ∙ ap (λ (a : AuditorModel). finding_of a.system a.tolerances a.state c.args.event) c.self.view_is
