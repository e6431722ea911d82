use Rattle.std.proofs.Common.{◌∙◌}
use Rattle.msrp_plan.proofs.Common.{ap}
use Rattle.std.specs.Vec.{vec_capacity}
use Rattle.msrp_events.specs.Findings.{finding_of}
use Rattle.msrp_event_audit.specs.Auditors.{AuditorModel}
use Rattle.msrp_event_audit.specs.States.{state_of}
use Rattle.msrp_event_audit.proofs.Accepted.{accepted}
use Rattle.msrp_event_audit.proofs.Feeding.{moved_view}
use Rattle.msrp_event_audit.proofs.auditor.LogAuditor.take.Goals as goal

pub apply-requires-clause-jobs : goal.apply-requires-clause-jobs
apply-requires-clause-jobs c =
    let nothing = ap (λ (a : AuditorModel). finding_of a.system a.tolerances a.state c.args.event) c.self.view_is ∙ c.requires in
    (accepted c.self.inside.system.now c.self.inside.tolerances (state_of c.self.inside.state) c.args.event (vec_capacity c.self.inside.state.jobs) c.self.invariant.system c.self.invariant.room c.if-not-self.true nothing).jobs

pub returns-then-not-self : goal.returns-then-not-self
returns-then-not-self c = moved_view c.self.inside.system.now c.self.inside.tolerances (state_of c.self.inside.state) (state_of c.apply.new.state) c.self.inside.finding c.args.self.now c.args.event c.self.view_is c.apply.ensures.state
