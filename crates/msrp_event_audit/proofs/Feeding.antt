-- What is known of an auditor that is fed one event more.
use Rattle.std.proofs.Common.{◌≡◌, ◌++◌, ◌∷◌, ◌∙◌}
use Rattle.msrp_plan.proofs.Common.{List, [], Option, Some, None, ap, sym, PlanModel}
use Rattle.msrp_events.specs.Changes.{LogState, state_with}
use Rattle.msrp_events.specs.Findings.{finding_of, finding_in}
use Rattle.msrp_events.specs.declared.events.Event.{Event}
use Rattle.msrp_events.specs.declared.findings.Finding.{Finding}
use Rattle.msrp_events.specs.declared.states.Tolerances.{Tolerances}
use Rattle.msrp_event_audit.specs.Auditors.{AuditorModel, HasFed}
use Rattle.msrp_event_audit.proofs.Following.{shown, shows_next, next_state}

abbrev pub auditor_of : PlanModel → Tolerances → LogState → Option Finding → AuditorModel
auditor_of system tolerances s finding = record { system = system; tolerances = tolerances; state = s; finding = finding }

-- it has found something before
pub fed_found : (a : AuditorModel) (events : List Event) (e : Event) (found : Finding) → a.finding ≡ Some found → HasFed a events → HasFed a (events ++ e ∷ [])
fed_found a events e found is fed = record {
  finding = is ∙ sym (shown a.system a.tolerances events e found (sym fed.finding ∙ is));
  state = λ none. absurd (cc);
}

-- the event shows this, and it has found nothing before
pub fed_next : (a : AuditorModel) (events : List Event) (e : Event) (o : Option Finding) → a.finding ≡ None → finding_of a.system a.tolerances a.state e ≡ o → HasFed a events → o ≡ finding_in a.system a.tolerances (events ++ e ∷ [])
fed_next a events e o none is fed = sym is ∙ sym (shows_next a.system a.tolerances events e a.state (sym fed.finding ∙ none) (fed.state none))

pub fed_finds : (a : AuditorModel) (events : List Event) (e : Event) (found : Finding) → a.finding ≡ None → finding_of a.system a.tolerances a.state e ≡ Some found → HasFed a events → HasFed (record a { finding = Some found }) (events ++ e ∷ [])
fed_finds a events e found none is fed = record {
  finding = fed_next a events e (Some found) none is fed;
  state = λ absent. absurd (cc);
}

pub fed_moves : (a : AuditorModel) (events : List Event) (e : Event) → a.finding ≡ None → finding_of a.system a.tolerances a.state e ≡ None → HasFed a events → HasFed (record a { state = state_with a.system a.state e }) (events ++ e ∷ [])
fed_moves a events e none is fed = record {
  finding = none ∙ fed_next a events e None none is fed;
  state = λ _. next_state a.system events e a.state (fed.state none);
}

-- the state of an auditor after an event that it takes
pub moved_view : (system : PlanModel) (tolerances : Tolerances) (s t : LogState) (finding : Option Finding) (a : AuditorModel) (e : Event) → auditor_of system tolerances s finding ≡ a → t ≡ state_with system s e
    → auditor_of system tolerances t finding ≡ record a { state = state_with a.system a.state e }
moved_view system tolerances s t finding a e is moved =
    ap (λ x. auditor_of system tolerances x finding) moved ∙ ap (λ (b : AuditorModel). record b { state = state_with b.system b.state e }) is
