-- A clock that looks at each event: from the event on at which its condition begins to hold, it has
-- that event's time.
use Rattle.std.proofs.Common.{◌≡◌, ◌∷◌, ◌++◌, ◌∙◌}
use Rattle.msrp_plan.proofs.Common.{ℕ, Bool, true, false, List, [], Option, Some, None, is_some, refl, ap, sym, subst, fold-append, PlanModel}
use Rattle.msrp_events.specs.Changes.{LogState, first_state, clock_after, moved, state_with, state_from}
use Rattle.msrp_events.specs.Findings.{finding_of, finding_from}
use Rattle.msrp_events.specs.Laws.{Stays, HoldsFrom, state_after}
use Rattle.msrp_events.specs.declared.events.Event.{Event}
use Rattle.msrp_events.specs.declared.states.Tolerances.{Tolerances}
use Rattle.msrp_events.proofs.FirstFindings.{finding-append}
use Rattle.msrp_events.proofs.LegalEvents.{running_with, ran_before, kept_along, or_parts}

clock_runs : (b : Bool) (clock : Option ℕ) (now : ℕ) → is_some (clock_after b clock now) ≡ b
clock_runs true None now = refl
clock_runs true (Some t) now = refl
clock_runs false clock now = refl

pub clock_stays : (clock : Option ℕ) (now : ℕ) → clock ≡ clock_after (is_some clock) clock now
clock_stays None now = refl
clock_stays (Some t) now = refl

none_from : (clock : Option ℕ) → is_some clock ≡ false → clock ≡ None
none_from None h = refl
none_from (Some t) h = absurd (cc)

-- the clock runs exactly while the test holds
pub record IsClocked (P : LogState → Type 0) (clock : LogState → Option ℕ) (test : LogState → Bool) (s : LogState) : Type 0 where
  pub parts : P s
  pub runs : is_some (clock s) ≡ test s

module _ (system : PlanModel) (tolerances : Tolerances) (P : LogState → Type 0) (clock : LogState → Option ℕ) (test : LogState → Bool)
    (keeps : (s : LogState) (e : Event) → P s → P (moved system s e))
    (looks : (s : LogState) (e : Event) → s.stopped ≡ false → finding_of system tolerances s e ≡ None → IsClocked P clock test s → clock (moved system s e) ≡ clock_after (test (moved system s e)) (clock s) e.time) where
  moved_clocked : (s : LogState) (e : Event) → s.stopped ≡ false → finding_of system tolerances s e ≡ None → IsClocked P clock test s → IsClocked P clock test (moved system s e)
  moved_clocked s e runs h before = record { parts = keeps s e before.parts; runs = ap is_some (looks s e runs h before) ∙ clock_runs (test (moved system s e)) (clock s) e.time }

  next_clocked : (s : LogState) (e : Event) → s.stopped ≡ false → finding_of system tolerances s e ≡ None → IsClocked P clock test s → IsClocked P clock test (state_with system s e) × (clock (state_with system s e) ≡ clock_after (test (state_with system s e)) (clock s) e.time)
  next_clocked s e runs h before = subst (λ t. IsClocked P clock test t × (clock t ≡ clock_after (test t) (clock s) e.time)) (sym (running_with system s e runs)) (moved_clocked s e runs h before, looks s e runs h before)

  holds_here : (s : LogState) (events : List Event) → Stays system test s events → test s ≡ true
  holds_here s [] stays = stays
  holds_here s (e ∷ events) stays = stays.0

  -- it stays while the test holds
  clock_kept : (t : ℕ) (s : LogState) (mid : List Event) → finding_from system tolerances s mid ≡ None → (state_from system s mid).stopped ≡ false → IsClocked P clock test s → Stays system test s mid → clock s ≡ Some t → IsClocked P clock test (state_from system s mid) × (clock (state_from system s mid) ≡ Some t)
  clock_kept t s [] h runs before stays at = (before, at)
  clock_kept t s (e ∷ mid) h runs before stays at =
      let parts = or_parts (finding_of system tolerances s e) _ h in
      let next = next_clocked s e (ran_before system s (e ∷ mid) runs) parts.0 before in
      clock_kept t (state_with system s e) mid parts.1 runs next.0 stays.1
      (next.1 ∙ (ap (λ b. clock_after b (clock s) e.time) (holds_here (state_with system s e) mid stays.1) ∙ ap (λ o. clock_after true o e.time) at))

  pub clock_since : IsClocked P clock test (first_state system) → (start : List Event) (d : Event) (mid : List Event) (e : Event) → HoldsFrom system tolerances test start d mid e
      → P (state_after system (start ++ d ∷ mid)) × (clock (state_after system (start ++ d ∷ mid)) ≡ Some d.time) × (finding_of system tolerances (state_after system (start ++ d ∷ mid)) e ≡ None)
  clock_since begins start d mid e holds =
      let s = state_after system start in
      let joined : state_after system (start ++ d ∷ mid) ≡ state_from system s (d ∷ mid) = fold-append (state_with system) (first_state system) start (d ∷ mid) in
      let running : (state_from system s (d ∷ mid)).stopped ≡ false = subst (λ (t : LogState). t.stopped ≡ false) joined holds.runs in
      let first = or_parts _ _ (sym (finding-append system tolerances (first_state system) start (d ∷ (mid ++ e ∷ []))) ∙ holds.legal) in
      let second = or_parts (finding_of system tolerances s d) _ first.1 in
      let third = or_parts _ _ (sym (finding-append system tolerances (state_with system s d) mid (e ∷ [])) ∙ second.1) in
      let before = kept_along system tolerances (IsClocked P clock test) moved_clocked (first_state system) start first.0 begins in
      let next = next_clocked s d (ran_before system s (d ∷ mid) running) second.0 before in
      let since = next.1 ∙ (ap (λ b. clock_after b (clock s) d.time) (holds_here (state_with system s d) mid holds.after) ∙ ap (λ o. clock_after true o d.time) (none_from (clock s) (before.runs ∙ holds.before))) in
      let kept = clock_kept d.time (state_with system s d) mid third.0 running next.0 holds.after since in
      subst (λ t. P t × (clock t ≡ Some d.time) × (finding_of system tolerances t e ≡ None)) (sym joined) (kept.0.parts, kept.1, (or_parts (finding_of system tolerances (state_from system s (d ∷ mid)) e) None third.1).0)
