-- What decides a verdict, as a log's records are judged.
use Rattle.std.proofs.Common.{◌≡◌, ◌+◌, ◌++◌, ◌∷◌, ◌∙◌}
use Rattle.msrp_plan.proofs.Common.{ℕ, List, [], length, map, Option, Some, None, option_map, Result, Ok, IfOk, ap, arith, sym, subst, PlanModel, append_assoc, length-append, map-append}
use Rattle.msrp_events.specs.Changes.{LogState, first_state, state_from}
use Rattle.msrp_events.specs.Findings.{finding_in}
use Rattle.msrp_events.specs.declared.events.Event.{Event}
use Rattle.msrp_events.specs.declared.findings.Finding.{Finding}
use Rattle.msrp_events.specs.declared.states.Tolerances.{Tolerances}
use Rattle.msrp_event_audit.specs.Auditors.{AuditorModel, HasFed}
use Rattle.msrp_event_audit.proofs.Following.{shows_next}
use Rattle.msrp_event_text.specs.LogEvents.{event_of}
use Rattle.msrp_event_text.specs.LogVerdicts.{awaited_in, no_numbers, record_shows, verdict_after, verdict_of}
use Rattle.msrp_event_text.specs.Decisions.{IsDecided, IsDecidedBy, shown_at}
use Rattle.msrp_event_text.specs.declared.verdicts.Judged.{Judged}
use Rattle.msrp_event_text.specs.declared.verdicts.LogError.{LogError}
use Rattle.msrp_event_text.specs.declared.verdicts.LogVerdict.{LogVerdict}
use Rattle.msrp_event_text.specs.declared.verdicts.Shown.{Shown}
use Rattle.msrp_event_text.proofs.LeftRecords.{first_awaited, has-event}

-- ---- the events of the records so far, with one record more
pub one-more : (before : List (List (List ℕ))) (fields : List (List ℕ)) (left rest all : List (List (List ℕ))) → all ≡ before ++ left → left ≡ fields ∷ rest → all ≡ (before ++ fields ∷ []) ++ rest
one-more before fields left rest all at one = at ∙ (ap (λ l. before ++ l) one ∙ sym (append_assoc before (fields ∷ []) rest))

pub count-more : (before : List (List (List ℕ))) (fields : List (List ℕ)) (n : ℕ) → n ≡ length before + 2 → n + 1 ≡ length (before ++ fields ∷ []) + 2
count-more before fields n h = let size = length-append before (fields ∷ []) in omega arith

pub events-more : (system : PlanModel) (before : List (List (List ℕ))) (fields : List (List ℕ)) (events : List Event) (e : Event) → event_of system fields ≡ Some e → map (event_of system) before ≡ map (λ x. Some x) events
    → map (event_of system) (before ++ fields ∷ []) ≡ map (λ x. Some x) (events ++ e ∷ [])
events-more system before fields events e is h =
    map-append (event_of system) before (fields ∷ [])
    ∙ (ap (λ l. l ++ event_of system fields ∷ []) h
    ∙ (ap (λ o. map (λ x. Some x) events ++ o ∷ []) is
    ∙ sym (map-append (λ x. Some x) events (e ∷ []))))

pub more-done : (done start events : List Event) (e : Event) → done ≡ start ++ events → done ++ e ∷ [] ≡ start ++ (events ++ e ∷ [])
more-done done start events e split = ap (λ l. l ++ e ∷ []) split ∙ append_assoc start events (e ∷ [])

-- what an auditor has found of these events
pub found-of : (system : PlanModel) (t : Tolerances) (a : AuditorModel) (events : List Event) → HasFed a events → a.system ≡ system → a.tolerances ≡ t → a.finding ≡ finding_in system t events
found-of system t a events fed is same = fed.finding ∙ (ap (λ p. finding_in p a.tolerances events) is ∙ ap (λ u. finding_in system u events) same)

-- ---- the record that decides
pub is-decided : (system : PlanModel) (t : Tolerances) (start : List Event) (a : AuditorModel) (done events : List Event) → HasFed a done → done ≡ start ++ events → a.system ≡ system → a.tolerances ≡ t → a.finding ≡ None → (s : LogState) → s ≡ a.state
    → (number : ℕ) (fields : List (List ℕ)) (found : Finding) → record_shows system a.tolerances number done fields (event_of system fields) ≡ Ok (Some found)
    → (before left rest all : List (List (List ℕ))) → all ≡ before ++ left → left ≡ fields ∷ rest → number ≡ length before + 2 → map (event_of system) before ≡ map (λ x. Some x) events
    → (verdict : LogVerdict) (shown : Option Shown) → shown ≡ option_map (shown_at found number) (event_of system fields) → IsDecided system t start all fields s verdict shown
is-decided system t start a done events fed split is same none s kept number fields found shows before left rest all at one counted are verdict shown known =
    let event = has-event system a.tolerances number done fields (event_of system fields) (Some found) shows in
    let nothing = sym (found-of system t a done fed is same) ∙ none in
    let state = kept ∙ (fed.state none ∙ ap (λ p. state_from p (first_state p) done) is) in
    subst (λ it. IsDecided system t start all fields s verdict it) (sym (known ∙ ap (option_map (shown_at found number)) event.1)) (record {
      before = before;
      after = rest;
      events = events;
      all = at ∙ ap (λ l. before ++ l) one;
      number = counted;
      are = are;
      event = event.1;
      nothing = sym (ap (finding_in system t) split) ∙ nothing;
      state = state ∙ ap (state_from system (first_state system)) split;
      finding = sym (shows_next system t done event.0 s nothing state) ∙ (sym (ap (λ u. finding_in system u (done ++ event.0 ∷ [])) same) ∙ event.3);
    })

pub decided-same : (system : PlanModel) (t : Tolerances) (start : List Event) (xs ys : List (List (List ℕ))) → xs ≡ ys → (fields : List (List ℕ)) (s : LogState) (r : Result Judged LogError) → IfOk r (λ judged. IsDecidedBy system t start xs fields s judged) → IfOk r (λ judged. IsDecidedBy system t start ys fields s judged)
decided-same system t start xs ys e fields s r h = subst (λ zs. IfOk r (λ judged. IsDecidedBy system t start zs fields s judged)) e h

-- ---- a whole log
pub whole-verdict : (system : PlanModel) (t : Tolerances) (a : AuditorModel) → HasFed a [] → a.system ≡ system → a.tolerances ≡ t → a.finding ≡ None → (records : List (List (List ℕ))) → verdict_after system a.tolerances [] (awaited_in a.state) records ≡ verdict_of system t records
whole-verdict system t a fed is same none records =
    ap (λ cores. verdict_after system a.tolerances [] cores records) (first_awaited system a.state (fed.state none ∙ ap first_state is))
    ∙ ap (λ u. verdict_after system u [] (no_numbers system) records) same
