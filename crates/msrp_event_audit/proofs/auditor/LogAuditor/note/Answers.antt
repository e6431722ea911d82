use Rattle.msrp_plan.proofs.Common.{sym, subst}
use Rattle.msrp_event_audit.specs.Auditors.{AuditorModel}
use Rattle.msrp_event_audit.specs.StartStates.{CanStore}
use Rattle.msrp_event_audit.specs.States.{state_of}
use Rattle.msrp_event_audit.proofs.StartFacts.{can_more, fact_view}
use Rattle.msrp_event_audit.proofs.auditor.LogAuditor.note.Goals as goal

pub store-requires : goal.store-requires
store-requires c =
    let can = subst (λ (a : AuditorModel). CanStore c.args.fact a.state a.tolerances.backlog) (sym c.self.view_is) c.requires.can in
    can_more c.args.fact (state_of c.self.inside.state) c.self.inside.tolerances.backlog _ c.self.invariant.room can

pub returns : goal.returns
returns c = fact_view c.self.inside.system.now c.self.inside.tolerances (state_of c.self.inside.state) (state_of c.store.new.state) c.self.inside.finding c.args.self.now c.args.fact c.self.view_is c.store.ensures.state
