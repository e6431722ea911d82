-- A state that the records of a text describe.
use Rattle.std.proofs.Common.{◌≡◌, ◌∷◌, ◌∙◌}
use Rattle.msrp_plan.proofs.Common.{ℕ, List, Some, None, ap, sym, fold, unwrap_or, PlanModel}
use Rattle.msrp_events.specs.Changes.{LogState, first_state, state_from}
use Rattle.msrp_events.specs.Findings.{finding_in}
use Rattle.msrp_events.specs.Laws.{IsLegalLog, state_after}
use Rattle.msrp_events.specs.declared.events.Event.{Event}
use Rattle.msrp_events.specs.declared.states.Tolerances.{Tolerances}
use Rattle.msrp_event_audit.specs.Auditors.{AuditorModel, HasFed}
use Rattle.msrp_event_text.specs.StateTexts.{state_described, state_with_record}

-- one record more leaves what all records describe
pub described-goes : (p system : PlanModel) → p ≡ system → (s t : LogState) (left : List (List (List ℕ))) (fields : List (List ℕ)) (rest : List (List (List ℕ))) → left ≡ fields ∷ rest → state_with_record p (Some s) fields ≡ Some t
    → state_described system t rest ≡ state_described system s left
described-goes p system is s t left fields rest one told =
    sym (ap (λ o. fold (state_with_record system) o rest) (sym (ap (λ q. state_with_record q (Some s) fields) is) ∙ told)) ∙ sym (ap (state_described system s) one)

-- an auditor in the state after a legal log is one that was fed this log
pub has-begun : (a : AuditorModel) (system : PlanModel) (t : Tolerances) (start : List Event) → a.system ≡ system → a.tolerances ≡ t → a.finding ≡ None → Some a.state ≡ Some (state_after system start) → IsLegalLog system t start → HasFed a start
has-begun a system t start is same none at legal = record {
  finding = none ∙ sym (ap (λ p. finding_in p a.tolerances start) is ∙ (ap (λ u. finding_in system u start) same ∙ legal));
  state = λ _. ap (λ o. unwrap_or o a.state) at ∙ sym (ap (λ p. state_from p (first_state p) start) is);
}
