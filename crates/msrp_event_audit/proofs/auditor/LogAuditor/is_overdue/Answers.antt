use Rattle.std.proofs.Common.{◌∙◌}
use Rattle.msrp_plan.proofs.Common.{ap, sym, unwrap_or}
use Rattle.std.proofs.lemmas.Option.{unwrap_or-slice_get}
use Rattle.msrp_events.specs.Changes.{idle_core}
use Rattle.msrp_events.specs.Rules.{is_overdue}
use Rattle.msrp_event_audit.proofs.auditor.LogAuditor.is_overdue.Goals as goal

pub returns-in-None : goal.returns-in-None
returns-in-None c =
    let auditor = c.args.self.now in
    let lacks = sym (unwrap_or-slice_get auditor.state.cores c.args.core.0 idle_core) ∙ ap (λ o. unwrap_or o idle_core) (sym c.core.ensures ∙ c.in-None.is) in
    sym (ap (is_overdue auditor.tolerances c.args.event.time) lacks)
