-- In a legal log a core runs its choice but for stretches within the slack: the clock of a core
-- runs exactly while the choice isn't the running job, and no event finds it run for too long.
use Rattle.std.proofs.Common.{◌≡◌, ◌<◌, ◌+◌, ◌&&◌, ◌==◌, ◌⊎◌, ◌∷◌, ◌++◌, ◌∙◌}
use Rattle.msrp_plan.proofs.Common.{ℕ, Bool, true, false, not, List, [], Option, Some, None, is_some, refl, ap, sym, subst, arith, inl, inr, length, nat_tests, get_or-replicate, get_or-set_same, length-set, length-replicate, eqb-true, PlanModel, same_choice}
use Rattle.msrp_plan.proofs.Lists.AnyAll.{any_in}
use Rattle.std.proofs.lemmas.List.Elements.{Contains-get_or}
use Rattle.msrp_events.specs.Choices.{choice}
use Rattle.msrp_events.specs.Changes.{LogState, first_state, idle_core, core_at, jobs_with, acts, core_with, cores_acted, cores_timed, since_with, clock_after, core_touched, differs, moved}
use Rattle.msrp_events.specs.Rules.{is_past, is_overdue, any_overdue, allowance}
use Rattle.msrp_events.specs.Findings.{finding_of}
use Rattle.msrp_events.specs.Laws.{is_off, HoldsFrom, IsWithin, IsInTime, state_after}
use Rattle.msrp_events.specs.declared.events.Action.{Action}
use Rattle.msrp_events.specs.declared.events.Action.TheVariants.{Boot, Release, Switch, Step, End, Stop, Lost}
use Rattle.msrp_events.specs.declared.events.Event.{Event}
use Rattle.msrp_events.specs.declared.findings.LogRule.TheVariants.{E1}
use Rattle.msrp_events.specs.declared.states.CoreLog.{CoreLog}
use Rattle.msrp_events.specs.declared.states.Tolerances.{Tolerances}
use Rattle.msrp_events.proofs.LegalEvents.{accepted, fault_parts}
use Rattle.msrp_events.proofs.Clocks.{IsClocked, clock_stays, clock_since}
use Rattle.msrp_events.proofs.OwnCore.{same_choices, same_part, untouched}

-- no action sets it
keeps_since : (a : Action) (now : ℕ) (x : CoreLog) → (acts a now x).since ≡ x.since
keeps_since Boot now x = refl
keeps_since (Release j deadline) now x = refl
keeps_since (Switch j) now x = refl
keeps_since (Step kind j r) now x = refl
keeps_since (End j) now x = refl
keeps_since Stop now x = refl
keeps_since Lost now x = refl

-- an event looks at the clock of each core
clocked_event : (system : PlanModel) (tolerances : Tolerances) (s : LogState) (e : Event) (c : ℕ) → s.stopped ≡ false → finding_of system tolerances s e ≡ None → IsClocked (λ t. length t.cores ≡ system.cores) (λ t. (core_at t.cores c).since) (is_off system c) s → c < system.cores
    → (core_at (moved system s e).cores c).since ≡ clock_after (is_off system c (moved system s e)) (core_at s.cores c).since e.time
clocked_event system tolerances s e c runs h before within = by_core (c == core_touched system e) refl where
  by_core : (b : Bool) → (c == core_touched system e) ≡ b → (core_at (moved system s e).cores c).since ≡ clock_after (is_off system c (moved system s e)) (core_at s.cores c).since e.time
  by_core false other =
      let u = untouched system tolerances s e c (accepted system tolerances s e runs h).action other in
      let same : is_off system c (moved system s e) ≡ is_off system c s =
      ap (λ b. b && not (same_choice (choice system (moved system s e).jobs c) (core_at (moved system s e).cores c).run)) u.booted
      ∙ (ap (λ o. (core_at s.cores c).booted && not (same_choice o (core_at (moved system s e).cores c).run)) (same_choices system (moved system s e).jobs s.jobs c u.jobs)
      ∙ ap (λ o. (core_at s.cores c).booted && not (same_choice (choice system s.jobs c) o)) u.run) in
      u.since ∙ (clock_stays (core_at s.cores c).since e.time ∙ ap (λ b. clock_after b (core_at s.cores c).since e.time) (before.runs ∙ sym same))
  by_core true same =
      let jobs = jobs_with e.action s.jobs in
      let acted = cores_acted e s.cores in
      let here : core_touched system e ≡ c = sym (eqb-true c (core_touched system e) same) in
      let long : c < length acted = let k = length-set s.cores e.core.0 (core_with e (core_at s.cores e.core.0)) in let n = before.parts in omega arith in
      let is : core_at (moved system s e).cores c ≡ since_with system jobs c e.time (core_at acted c) =
      ap (λ t. core_at (cores_timed system jobs t e.time acted) c) here ∙ get_or-set_same acted c (since_with system jobs c e.time (core_at acted c)) idle_core long in
      subst (λ x. x.since ≡ clock_after (differs system jobs x c) (core_at s.cores c).since e.time) (sym is)
      (ap (λ o. clock_after (differs system jobs (core_at acted c) c) o e.time) (same_part (λ (x : CoreLog). x.since) s.cores e.core.0 c (core_with e (core_at s.cores e.core.0)) (keeps_since e.action e.time (record (core_at s.cores e.core.0) { time = e.time; number = e.number }))))

sized : (system : PlanModel) (s : LogState) (e : Event) → length s.cores ≡ system.cores → length (moved system s e).cores ≡ system.cores
sized system s e before =
    let acted = cores_acted e s.cores in
    let t = core_touched system e in
    length-set acted t (since_with system (jobs_with e.action s.jobs) t e.time (core_at acted t)) ∙ (length-set s.cores e.core.0 (core_with e (core_at s.cores e.core.0)) ∙ before)

first_clocked : (system : PlanModel) (c : ℕ) → c < system.cores → IsClocked (λ t. length t.cores ≡ system.cores) (λ t. (core_at t.cores c).since) (is_off system c) (first_state system)
first_clocked system c within =
    let is = get_or-replicate system.cores c idle_core idle_core within in
    record { parts = length-replicate system.cores idle_core; runs = ap (λ (x : CoreLog). is_some x.since) is ∙ sym (ap (λ (x : CoreLog). differs system [] x c) is) }

-- ---- an event finds no clock run for too long
fails_one : (a b : Bool) → (a && b) ≡ false → (a ≡ false) ⊎ (b ≡ false)
fails_one true b h = inr h
fails_one false b h = inl refl

not_past : (clock : Option ℕ) (wait now : ℕ) → is_past clock wait now ≡ false → IsWithin wait clock now
not_past None wait now h = absurd (cc)
not_past (Some t) wait now h = grind (arith, nat_tests)

in_time : (since acted : Option ℕ) (operation slack now t : ℕ) → since ≡ Some t → (is_some since && (is_past since slack now && is_past acted (operation + slack) now)) ≡ false → IsWithin slack (Some t) now ⊎ IsWithin (operation + slack) acted now
in_time None acted operation slack now t at h = absurd (cc)
in_time (Some u) acted operation slack now t at h = elim (fails_one (is_past (Some u) slack now) (is_past acted (operation + slack) now) h) [
  | inl p ↦ inl (subst (λ o. IsWithin slack o now) at (not_past (Some u) slack now p))
  | inr p ↦ inr (not_past acted (operation + slack) now p)
]

not_overdue : (tolerances : Tolerances) (s : LogState) (e : Event) (c t : ℕ) → any_overdue tolerances s.cores e.time ≡ false → c < length s.cores → (core_at s.cores c).since ≡ Some t → IsInTime tolerances s c t e
not_overdue tolerances s e c t none within at =
    in_time (core_at s.cores c).since (core_at s.cores c).acted tolerances.operation (allowance tolerances) e.time t at (by_test (is_overdue tolerances e.time (core_at s.cores c)) refl)
  where
    by_test : (b : Bool) → is_overdue tolerances e.time (core_at s.cores c) ≡ b → is_overdue tolerances e.time (core_at s.cores c) ≡ false
    by_test true is = absurd (let found = any_in (is_overdue tolerances e.time) s.cores (core_at s.cores c) (Contains-get_or s.cores c idle_core within) is in cc)
    by_test false is = is

pub in_stretch : (system : PlanModel) (tolerances : Tolerances) (start : List Event) (d : Event) (mid : List Event) (e : Event) (c : ℕ) → c < system.cores → HoldsFrom system tolerances (is_off system c) start d mid e → IsInTime tolerances (state_after system (start ++ d ∷ mid)) c d.time e
in_stretch system tolerances start d mid e c within off =
    let after = state_after system (start ++ d ∷ mid) in
    let it = clock_since system tolerances (λ t. length t.cores ≡ system.cores) (λ t. (core_at t.cores c).since) (is_off system c) (sized system) (λ s e runs h before. clocked_event system tolerances s e c runs h before within) (first_clocked system c within) start d mid e off in
    let time = fault_parts (any_overdue tolerances after.cores e.time) E1 _ (accepted system tolerances after e off.runs it.2).time in
    not_overdue tolerances after e c d.time time.0 (let n = it.0 in omega (arith, n, within)) it.1
