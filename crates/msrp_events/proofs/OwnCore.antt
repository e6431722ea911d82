-- An event that doesn't touch a core changes neither the core's jobs nor what runs there, so not
-- its choice.
use Rattle.std.proofs.Common.{◌≡◌, ◌&&◌, ◌||◌, ◌==◌, ◌∷◌, ◌++◌, ◌∙◌}
use Rattle.std.specs.Prelude.{remove}
use mathlib.Core.Path.{fun_ext}
use Rattle.msrp_plan.proofs.Common.{ℕ, zero, suc, Bool, true, false, cond, not, List, [], Option, Some, None, refl, ap, sym, arith, set, slice_get, filter, list_any, option_map, append-nil, filter-append, eqb-true, eqb-false, length, get_or-set_other, get_or-set_same, cases_lt, PlanModel, core_of, least, ceiling_with, inl, inr}
use Rattle.std.proofs.lemmas.List.{set_past}
use Rattle.msrp_plan.specs.declared.ids.CoreId.{CoreId}
use Rattle.msrp_plan.specs.declared.ids.JobId.{JobId}
use Rattle.msrp_events.specs.LiveJobs.{is_on, holds, place_of}
use Rattle.msrp_events.specs.Choices.{is_before, chosen, choice}
use Rattle.msrp_events.specs.Changes.{LogState, idle_core, core_at, changed_at, last_at, as_started, as_waiting, as_stepped, released, jobs_with, core_with, cores_acted, cores_timed, since_with, core_touched, moved}
use Rattle.msrp_events.specs.Findings.{action_finding}
use Rattle.msrp_events.specs.declared.events.Action.{Action}
use Rattle.msrp_events.specs.declared.events.Action.TheVariants.{Boot, Release, Switch, Step, End, Stop, Lost}
use Rattle.msrp_events.specs.declared.events.Event.{Event}
use Rattle.msrp_events.specs.declared.events.LockAction.TheVariants.{Lock, Unlock, Request, Acquire, Poll, Freed}
use Rattle.msrp_events.specs.declared.states.CoreLog.{CoreLog}
use Rattle.msrp_events.specs.declared.states.LiveJob.{LiveJob}
use Rattle.msrp_events.specs.declared.states.Tolerances.{Tolerances}
use Rattle.msrp_events.proofs.LegalEvents.{IsOwn, legal_step, legal_switch, legal_end, changed_own, last_own, without_own}
use Rattle.msrp_events.proofs.RequestOrder.{kept_remove}

-- ---- the choice is one of the core's jobs alone
abbrev pub of_core : PlanModel → ℕ → List LiveJob → List LiveJob
of_core system c jobs = filter (is_on system c) jobs

filter_and : {X : Type 0} (a b : X → Bool) (xs : List X) → filter (λ x. a x && b x) xs ≡ filter b (filter a xs)
filter_and a b [] = refl
filter_and a b (x ∷ xs) = by_first (a x) (filter_and a b xs) where
  by_first : (t : Bool) → filter (λ x. a x && b x) xs ≡ filter b (filter a xs) → cond (t && b x) (x ∷ filter (λ x. a x && b x) xs) (filter (λ x. a x && b x) xs) ≡ filter b (cond t (x ∷ filter a xs) (filter a xs))
  by_first true e = ap (λ ys. cond (b x) (x ∷ ys) ys) e
  by_first false e = e

any_and : {X : Type 0} (a b : X → Bool) (xs : List X) → list_any (λ x. a x && b x) xs ≡ list_any b (filter a xs)
any_and a b [] = refl
any_and a b (x ∷ xs) = by_first (a x) (any_and a b xs) where
  by_first : (t : Bool) → list_any (λ x. a x && b x) xs ≡ list_any b (filter a xs) → ((t && b x) || list_any (λ x. a x && b x) xs) ≡ list_any b (cond t (x ∷ filter a xs) (filter a xs))
  by_first true e = ap (λ r. b x || r) e
  by_first false e = e

abbrev own_choice : PlanModel → ℕ → List LiveJob → Option JobId
own_choice system c mine = option_map (λ j. j.job) (chosen system (ceiling_with system c (list_any (λ j. j.waits) mine) (λ g. list_any (holds system g) mine)) (least (is_before system) (filter (λ j. not j.started) mine)) (least (is_before system) (filter (λ j. j.started) mine)))

choice_own : (system : PlanModel) (jobs : List LiveJob) (c : ℕ) → choice system jobs c ≡ own_choice system c (of_core system c jobs)
choice_own system jobs c =
    let mine = of_core system c jobs in
    let pick : (ℕ → Bool) → Bool → List LiveJob → List LiveJob → Option JobId = λ h w a b. option_map (λ j. j.job) (chosen system (ceiling_with system c w h) (least (is_before system) a) (least (is_before system) b)) in
    let held : (λ g. list_any (λ (j : LiveJob). is_on system c j && holds system g j) jobs) ≡ (λ g. list_any (holds system g) mine) = fun_ext (λ g. any_and (is_on system c) (holds system g) jobs) in
    ap (λ h. pick h (list_any (λ j. is_on system c j && j.waits) jobs) (filter (λ j. is_on system c j && not j.started) jobs) (filter (λ j. is_on system c j && j.started) jobs)) held
    ∙ (ap (λ w. pick (λ g. list_any (holds system g) mine) w (filter (λ j. is_on system c j && not j.started) jobs) (filter (λ j. is_on system c j && j.started) jobs)) (any_and (is_on system c) (λ j. j.waits) jobs)
    ∙ (ap (λ a. pick (λ g. list_any (holds system g) mine) (list_any (λ j. j.waits) mine) a (filter (λ j. is_on system c j && j.started) jobs)) (filter_and (is_on system c) (λ j. not j.started) jobs)
    ∙ ap (λ b. pick (λ g. list_any (holds system g) mine) (list_any (λ j. j.waits) mine) (filter (λ j. not j.started) mine) b) (filter_and (is_on system c) (λ j. j.started) jobs)))

pub same_choices : (system : PlanModel) (jobs more : List LiveJob) (c : ℕ) → of_core system c jobs ≡ of_core system c more → choice system jobs c ≡ choice system more c
same_choices system jobs more c e = choice_own system jobs c ∙ (ap (own_choice system c) e ∙ sym (choice_own system more c))

-- ---- jobs of other cores
dropped_set : {X : Type 0} (p : X → Bool) (xs : List X) (i : ℕ) (x y : X) → slice_get xs i ≡ Some x → p x ≡ false → p y ≡ false → filter p (set xs i y) ≡ filter p xs
dropped_set p [] i x y at a b = absurd (cc)
dropped_set p (z ∷ xs) zero x y at a b = let e : z ≡ x = cc in ap (λ t. cond t (y ∷ filter p xs) (filter p xs)) b ∙ sym (ap (λ t. cond t (z ∷ filter p xs) (filter p xs)) (ap p e ∙ a))
dropped_set p (z ∷ xs) (suc i) x y at a b = ap (λ ys. cond (p z) (z ∷ ys) ys) (dropped_set p xs i x y at a b)

dropped_push : {X : Type 0} (p : X → Bool) (xs : List X) (y : X) → p y ≡ false → filter p (xs ++ y ∷ []) ≡ filter p xs
dropped_push p xs y h = filter-append p xs (y ∷ []) ∙ (ap (λ b. filter p xs ++ cond b (y ∷ []) []) h ∙ append-nil (filter p xs))

elsewhere : (system : PlanModel) (s : LogState) (k c : ℕ) (j : JobId) (own : IsOwn system s k j) → (c == k) ≡ false → is_on system c own.x ≡ false
elsewhere system s k c j own other = ap (λ i. core_of system i == c) own.name ∙ (ap (λ n. n == c) own.core ∙ flip k c other) where
  flip : (a b : ℕ) → (b == a) ≡ false → (a == b) ≡ false
  flip a b h = grind arith

set_elsewhere : (system : PlanModel) (s : LogState) (k c : ℕ) (j : JobId) (own : IsOwn system s k j) (change : LiveJob → LiveJob) → (c == k) ≡ false → is_on system c (change own.x) ≡ is_on system c own.x → of_core system c (changed_at (place_of s.jobs j) change s.jobs) ≡ of_core system c s.jobs
set_elsewhere system s k c j own change other same =
    let off = elsewhere system s k c j own other in
    ap (of_core system c) (changed_own system s k j own change) ∙ dropped_set (is_on system c) s.jobs own.i own.x (change own.x) own.at off (same ∙ off)

last_elsewhere : (system : PlanModel) (s : LogState) (k c : ℕ) (j : JobId) (own : IsOwn system s k j) → (c == k) ≡ false → of_core system c (last_at (place_of s.jobs j) as_waiting s.jobs) ≡ of_core system c s.jobs
last_elsewhere system s k c j own other =
    let off = elsewhere system s k c j own other in
    ap (of_core system c) (last_own system s k j own as_waiting) ∙ (dropped_push (is_on system c) (remove s.jobs own.i) (as_waiting own.x) off ∙ kept_remove (is_on system c) s.jobs own.i own.x own.at off)

-- ---- an event that touches another core
pub record IsUntouched (system : PlanModel) (s t : LogState) (c : ℕ) : Type 0 where
  pub booted : (core_at t.cores c).booted ≡ (core_at s.cores c).booted
  pub run : (core_at t.cores c).run ≡ (core_at s.cores c).run
  pub since : (core_at t.cores c).since ≡ (core_at s.cores c).since
  pub jobs : of_core system c t.jobs ≡ of_core system c s.jobs

abbrev pub event_at : ℕ → CoreId → Option ℕ → Action → Event
event_at time core number action = record { time = time; core = core; number = number; action = action }

-- the other cores are as they were
same_core : (cores : List CoreLog) (k c : ℕ) (y : CoreLog) → (c == k) ≡ false → core_at (set cores k y) c ≡ core_at cores c
same_core cores k c y other = get_or-set_other cores k c y idle_core (eqb-false c k other)

-- the core of the event keeps what the event doesn't change
pub same_part : {X : Type 0} (f : CoreLog → X) (cores : List CoreLog) (k c : ℕ) (y : CoreLog) → f y ≡ f (core_at cores k) → f (core_at (set cores k y) c) ≡ f (core_at cores c)
same_part f cores k c y kept = by_core (c == k) refl where
  by_core : (b : Bool) → (c == k) ≡ b → f (core_at (set cores k y) c) ≡ f (core_at cores c)
  by_core false other = ap f (same_core cores k c y other)
  by_core true same = elim (cases_lt k (length cores)) [
    | inl l ↦
        let at : c ≡ k = eqb-true c k same in
        ap f (ap (core_at (set cores k y)) at ∙ get_or-set_same cores k y idle_core l) ∙ (kept ∙ ap (λ n. f (core_at cores n)) (sym at))
    | inr g ↦ ap (λ xs. f (core_at xs c)) (set_past cores k y g)
  ]

module _ (system : PlanModel) (tolerances : Tolerances) (s : LogState) (time : ℕ) (core : CoreId) (number : Option ℕ) (c : ℕ) where
  own_event : (a : Action) → (c == core.0) ≡ false → core_touched system (event_at time core number a) ≡ core.0 → of_core system c (jobs_with a s.jobs) ≡ of_core system c s.jobs → IsUntouched system s (moved system s (event_at time core number a)) c
  own_event a other here jobs =
      let e = event_at time core number a in
      let timed = core_at (cores_timed system (jobs_with a s.jobs) (core_touched system e) time (cores_acted e s.cores)) c in
      let same : timed ≡ core_at s.cores c =
      ap (λ t. core_at (cores_timed system (jobs_with a s.jobs) t time (cores_acted e s.cores)) c) here
      ∙ (same_core (cores_acted e s.cores) core.0 c (since_with system (jobs_with a s.jobs) core.0 time (core_at (cores_acted e s.cores) core.0)) other ∙ same_core s.cores core.0 c (core_with e (core_at s.cores core.0)) other) in
      record { booted = ap (λ (x : CoreLog). x.booted) same; run = ap (λ (x : CoreLog). x.run) same; since = ap (λ (x : CoreLog). x.since) same; jobs = jobs }

  untouched_action : (a : Action) → action_finding system tolerances s (event_at time core number a) a ≡ None → (c == core_touched system (event_at time core number a)) ≡ false → IsUntouched system s (moved system s (event_at time core number a)) c
  untouched_action (Release j deadline) h other =
      let e = event_at time core number (Release j deadline) in
      let jobs = jobs_with (Release j deadline) s.jobs in
      let timed = same_core (cores_acted e s.cores) (core_of system j) c (since_with system jobs (core_of system j) time (core_at (cores_acted e s.cores) (core_of system j))) other in
      let acted = core_with e (core_at s.cores core.0) in
      record {
        booted = ap (λ (x : CoreLog). x.booted) timed ∙ same_part (λ (x : CoreLog). x.booted) s.cores core.0 c acted refl;
        run = ap (λ (x : CoreLog). x.run) timed ∙ same_part (λ (x : CoreLog). x.run) s.cores core.0 c acted refl;
        since = ap (λ (x : CoreLog). x.since) timed ∙ same_part (λ (x : CoreLog). x.since) s.cores core.0 c acted refl;
        jobs = dropped_push (is_on system c) s.jobs (released j deadline) (flip (core_of system j) c other);
      }
    where
      flip : (a b : ℕ) → (b == a) ≡ false → (a == b) ≡ false
      flip a b h = grind arith
  untouched_action (Switch None) h other = own_event (Switch None) other refl refl
  untouched_action (Switch (Some j)) h other = own_event (Switch (Some j)) other refl (set_elsewhere system s core.0 c j (legal_switch system s core.0 j h).0 as_started other refl)
  untouched_action (Step Lock j r) h other = own_event (Step Lock j r) other refl (set_elsewhere system s core.0 c j (legal_step system tolerances s (event_at time core number (Step Lock j r)) Lock j r.0 h).own as_stepped other refl)
  untouched_action (Step Unlock j r) h other = own_event (Step Unlock j r) other refl (set_elsewhere system s core.0 c j (legal_step system tolerances s (event_at time core number (Step Unlock j r)) Unlock j r.0 h).own as_stepped other refl)
  untouched_action (Step Request j r) h other = own_event (Step Request j r) other refl (last_elsewhere system s core.0 c j (legal_step system tolerances s (event_at time core number (Step Request j r)) Request j r.0 h).own other)
  untouched_action (Step Acquire j r) h other = own_event (Step Acquire j r) other refl (set_elsewhere system s core.0 c j (legal_step system tolerances s (event_at time core number (Step Acquire j r)) Acquire j r.0 h).own as_stepped other refl)
  untouched_action (Step Poll j r) h other = own_event (Step Poll j r) other refl refl
  untouched_action (Step Freed j r) h other = own_event (Step Freed j r) other refl (set_elsewhere system s core.0 c j (legal_step system tolerances s (event_at time core number (Step Freed j r)) Freed j r.0 h).own as_stepped other refl)
  untouched_action (End j) h other =
      let own = (legal_end system s core.0 j h).0 in
      own_event (End j) other refl (ap (of_core system c) (without_own system s core.0 j own) ∙ kept_remove (is_on system c) s.jobs own.i own.x own.at (elsewhere system s core.0 c j own other))
  untouched_action Boot h other = own_event Boot other refl refl
  untouched_action Stop h other = own_event Stop other refl refl
  untouched_action Lost h other = own_event Lost other refl refl

pub untouched : (system : PlanModel) (tolerances : Tolerances) (s : LogState) (e : Event) (c : ℕ) → action_finding system tolerances s e e.action ≡ None → (c == core_touched system e) ≡ false → IsUntouched system s (moved system s e) c
untouched system tolerances s e c h other = untouched_action system tolerances s e.time e.core e.number c e.action h other
