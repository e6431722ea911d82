-- In a legal log at most one job holds each resource: who locks or acquires finds that nobody holds
-- it.
use Rattle.std.proofs.Common.{◌≡◌, ◌+◌, ◌≤◌, ◌∷◌, ◌++◌, ◌⊎◌, ◌∙◌}
use Rattle.msrp_plan.proofs.Common.{ℕ, zero, suc, Bool, true, false, cond, not, List, [], Option, Some, None, inl, inr, refl, ap, sym, subst, arith, set, slice_get, take, list_any, count_by, sum_by-cons, sum_by_push, get_or_from_slice_get, slice_get_within, eqb-true, PlanModel}
use Rattle.std.specs.Prelude.{remove}
use Rattle.std.proofs.lemmas.Bool.{cases_Bool, or_parts, lt-ltb, ltb-true}
use Rattle.std.proofs.lemmas.List.{take_more}
use Rattle.msrp_plan.specs.Plan.{units}
use Rattle.msrp_plan.specs.Units.{is_lock_of, is_unlock_of, holds_after}
use Rattle.msrp_plan.specs.declared.ids.JobId.{JobId}
use Rattle.msrp_plan.specs.declared.units.Op.{Op}
use Rattle.msrp_plan.specs.declared.units.Op.TheVariants as unit
use Rattle.msrp_events.specs.LiveJobs.{holds, is_held, next_unit, locks_next, unlocks_next, place_of}
use Rattle.msrp_events.specs.Changes.{LogState, changed_at, last_at, without_at, as_started, as_waiting, as_stepped, released, jobs_stepped, jobs_with, state_from}
use Rattle.msrp_events.specs.Findings.{action_finding, finding_from}
use Rattle.msrp_events.specs.Laws.{IsHeldByOne}
use Rattle.msrp_events.specs.declared.events.Action.{Action}
use Rattle.msrp_events.specs.declared.events.Action.TheVariants.{Boot, Release, Switch, Step, End, Stop, Lost}
use Rattle.msrp_events.specs.declared.events.Event.{Event}
use Rattle.msrp_events.specs.declared.events.LockAction.{LockAction}
use Rattle.msrp_events.specs.declared.events.LockAction.TheVariants.{Lock, Unlock, Request, Acquire, Poll, Freed}
use Rattle.msrp_events.specs.declared.states.LiveJob.{LiveJob}
use Rattle.msrp_events.specs.declared.states.Tolerances.{Tolerances}
use Rattle.msrp_events.proofs.LegalEvents.{IsOwn, IsStep, legal_step, legal_switch, legal_end, changed_own, last_own, without_own, accepted, kept_along, left_true, right_true, not_true}

-- ---- counts of a changed list
abbrev pub one : Bool → ℕ
one b = cond b 1 0

pub one_le : (a b : Bool) → (a ≡ true → b ≡ true) → one a ≤ one b
one_le true b h = let e : one b ≡ 1 = ap one (h refl) in omega arith
one_le false b h = omega arith

pub count_cons : {X : Type 0} (p : X → Bool) (x : X) (xs : List X) → count_by p (x ∷ xs) ≡ one (p x) + count_by p xs
count_cons p x xs = sum_by-cons (λ z. cond (p z) 1 0) x xs

pub count_push : {X : Type 0} (p : X → Bool) (xs : List X) (x : X) → count_by p (xs ++ x ∷ []) ≡ count_by p xs + one (p x)
count_push p xs x = sum_by_push (λ z. cond (p z) 1 0) xs x

-- an element is changed to one that passes only if it did
pub count_set : {X : Type 0} (p : X → Bool) (xs : List X) (i : ℕ) (x y : X) → slice_get xs i ≡ Some x → (p y ≡ true → p x ≡ true) → count_by p (set xs i y) ≤ count_by p xs
count_set p [] i x y h keeps = absurd (cc)
count_set p (z ∷ xs) zero x y h keeps =
    let same : z ≡ x = cc in
    let a = count_cons p y xs in
    let b = count_cons p z xs in
    let le = one_le (p y) (p z) (λ e. ap p same ∙ keeps e) in
    omega arith
count_set p (z ∷ xs) (suc i) x y h keeps =
    let a = count_cons p z (set xs i y) in
    let b = count_cons p z xs in
    let rest = count_set p xs i x y h keeps in
    omega arith

-- where none passes at most the changed one does
pub count_none : {X : Type 0} (p : X → Bool) (xs : List X) → list_any p xs ≡ false → count_by p xs ≡ 0
count_none p [] h = refl
count_none p (x ∷ xs) h =
    let parts = or_parts (p x) (list_any p xs) h in
    let a = count_cons p x xs in
    let e : one (p x) ≡ one false = ap one parts.0 in
    let f : one false ≡ 0 = none in
    let rest = count_none p xs parts.1 in
    omega arith
  where
    none : one false ≡ 0
    none = refl

pub one_most : (b : Bool) → one b ≤ 1
one_most true = omega arith
one_most false = omega arith

count_set_one : {X : Type 0} (p : X → Bool) (xs : List X) (i : ℕ) (y : X) → list_any p xs ≡ false → count_by p (set xs i y) ≤ 1
count_set_one p [] i y h = omega (arith, count_none p [] h)
count_set_one p (z ∷ xs) zero y h =
    let parts = or_parts (p z) (list_any p xs) h in
    let a = count_cons p y xs in
    let rest = count_none p xs parts.1 in
    let most = one_most (p y) in
    omega arith
count_set_one p (z ∷ xs) (suc i) y h =
    let parts = or_parts (p z) (list_any p xs) h in
    let a = count_cons p z (set xs i y) in
    let rest = count_set_one p xs i y parts.1 in
    let e : one (p z) ≡ 0 = none (p z) parts.0 in
    omega arith
  where
    none : (b : Bool) → b ≡ false → one b ≡ 0
    none b h = ap one h

-- an element is taken away, or changed and put last
pub count_remove : {X : Type 0} (p : X → Bool) (xs : List X) (i : ℕ) → count_by p (remove xs i) ≤ count_by p xs
count_remove p [] zero = omega arith
count_remove p [] (suc i) = omega arith
count_remove p (x ∷ xs) zero = let a = count_cons p x xs in omega arith
count_remove p (x ∷ xs) (suc i) =
    let a = count_cons p x (remove xs i) in
    let b = count_cons p x xs in
    let rest = count_remove p xs i in
    omega arith

pub count_moved : {X : Type 0} (p : X → Bool) (xs : List X) (i : ℕ) (x y : X) → slice_get xs i ≡ Some x → (p y ≡ true → p x ≡ true) → count_by p (remove xs i ++ y ∷ []) ≤ count_by p xs
count_moved p [] i x y at keeps = absurd (cc)
count_moved p (z ∷ xs) zero x y at keeps =
    let e : z ≡ x = cc in
    let a = count_push p xs y in
    let b = count_cons p z xs in
    let le = one_le (p y) (p z) (λ h. ap p e ∙ keeps h) in
    omega (arith, a, b, le)
count_moved p (z ∷ xs) (suc i) x y at keeps =
    let a = count_cons p z (remove xs i ++ y ∷ []) in
    let b = count_cons p z xs in
    let rest = count_moved p xs i x y at keeps in
    omega (arith, a, b, rest)

-- ---- a job that does its next step
pub units_more : (us : List Op) (n : ℕ) (u : Op) → slice_get us n ≡ Some u → take (n + 1) us ≡ take n us ++ u ∷ []
units_more us n u h = take_more us n u (slice_get_within us n u h) ∙ ap (λ x. take n us ++ x ∷ []) (get_or_from_slice_get us n u u h)

-- a unit that isn't a lock of the resource doesn't make it held
not_locked : (us : List Op) (u : Op) (g : ℕ) → is_lock_of g u ≡ false → holds_after (us ++ u ∷ []) g ≡ true → holds_after us g ≡ true
not_locked us u g other h =
    let locks = count_push (is_lock_of g) us u in
    let none = is_zero (is_lock_of g u) other in
    let unlocks = count_push (is_unlock_of g) us u in
    let less = ltb-true (count_by (is_unlock_of g) (us ++ u ∷ [])) (count_by (is_lock_of g) (us ++ u ∷ [])) h in
    lt-ltb (count_by (is_unlock_of g) us) (count_by (is_lock_of g) us) (omega (arith, locks, none, unlocks, less))
  where
    is_zero : (b : Bool) → b ≡ false → one b ≡ 0
    is_zero b h = ap one h

stepped_keeps : (system : PlanModel) (g : ℕ) (x : LiveJob) (u : Op) → next_unit system x ≡ Some u → is_lock_of g u ≡ false → holds system g (as_stepped x) ≡ true → holds system g x ≡ true
stepped_keeps system g x u next other h = not_locked (take x.step (units system x.job)) u g other (ap (λ us. holds_after us g) (sym (units_more (units system x.job) x.step u next)) ∙ h)

-- what a step of the job may be: a lock of what nobody holds, or an unlock
abbrev IsGranted : PlanModel → List LiveJob → ℕ → LiveJob → Type 0
IsGranted system jobs g x = ((is_held system jobs g ≡ false) × (locks_next g (next_unit system x) ≡ true)) ⊎ (unlocks_next g (next_unit system x) ≡ true)

same_lock : (g h : ℕ) (u : Op) → is_lock_of g u ≡ true → is_lock_of h u ≡ true → g ≡ h
same_lock g h unit.Run a b = absurd (cc)
same_lock g h (unit.Lock r) a b = sym (eqb-true r.0 g a) ∙ eqb-true r.0 h b
same_lock g h (unit.Unlock r) a b = absurd (cc)

never_both : (g h : ℕ) (u : Op) → is_lock_of g u ≡ true → is_unlock_of h u ≡ true → ⊥
never_both g h unit.Run a b = absurd (cc)
never_both g h (unit.Lock r) a b = absurd (cc)
never_both g h (unit.Unlock r) a b = absurd (cc)

some_lock : (o : Option Op) (g : ℕ) → locks_next g o ≡ true → (u : Op) × (o ≡ Some u) × (is_lock_of g u ≡ true)
some_lock None g h = absurd (cc)
some_lock (Some u) g h = (u, refl, h)

some_unlock : (o : Option Op) (g : ℕ) → unlocks_next g o ≡ true → (u : Op) × (o ≡ Some u) × (is_unlock_of g u ≡ true)
some_unlock None g h = absurd (cc)
some_unlock (Some u) g h = (u, refl, h)

set_one : (system : PlanModel) (jobs : List LiveJob) (i : ℕ) (x : LiveJob) (g0 : ℕ) → slice_get jobs i ≡ Some x → IsGranted system jobs g0 x → IsHeldByOne system jobs → IsHeldByOne system (set jobs i (as_stepped x))
set_one system jobs i x g0 at (inl lock) before g =
    let u = some_lock (next_unit system x) g0 lock.1 in
    elim (cases_Bool (is_lock_of g u.0)) [
      | inl same ↦ let e : g0 ≡ g = same_lock g0 g u.0 u.2 same in
          subst (λ h. count_by (holds system h) (set jobs i (as_stepped x)) ≤ 1) e (count_set_one (holds system g0) jobs i (as_stepped x) lock.0)
      | inr other ↦ let le = count_set (holds system g) jobs i x (as_stepped x) at (stepped_keeps system g x u.0 u.1 other) in let most = before g in omega (arith, le, most)
    ]
set_one system jobs i x g0 at (inr unlock) before g =
    let u = some_unlock (next_unit system x) g0 unlock in
    elim (cases_Bool (is_lock_of g u.0)) [
      | inl same ↦ absurd (never_both g g0 u.0 same u.2)
      | inr other ↦ let le = count_set (holds system g) jobs i x (as_stepped x) at (stepped_keeps system g x u.0 u.1 other) in let most = before g in omega (arith, le, most)
    ]

-- who has done no step holds nothing
pub holds_none : (system : PlanModel) (g : ℕ) (j : LiveJob) → j.step ≡ 0 → holds system g j ≡ false
holds_none system g j e = ap (λ n. holds_after (take n (units system j.job)) g) e ∙ ap (λ us. holds_after us g) (take_none (units system j.job))
  where
    take_none : (us : List Op) → take 0 us ≡ []
    take_none [] = refl
    take_none (u ∷ us) = refl

-- ---- what an event does that shows nothing
module _ (system : PlanModel) (s : LogState) (c : ℕ) (j : JobId) (own : IsOwn system s c j) (before : IsHeldByOne system s.jobs) where
  granted_one : (g : ℕ) → IsGranted system s.jobs g own.x → IsHeldByOne system (changed_at (place_of s.jobs j) as_stepped s.jobs)
  granted_one g grant = subst (IsHeldByOne system) (sym (changed_own system s c j own as_stepped)) (set_one system s.jobs own.i own.x g own.at grant before)

  started_one : IsHeldByOne system (changed_at (place_of s.jobs j) as_started s.jobs)
  started_one = subst (IsHeldByOne system) (sym (changed_own system s c j own as_started)) (λ g. let le = count_set (holds system g) s.jobs own.i own.x (as_started own.x) own.at (λ e. e) in let most = before g in omega (arith, le, most))

  waiting_one : IsHeldByOne system (last_at (place_of s.jobs j) as_waiting s.jobs)
  waiting_one = subst (IsHeldByOne system) (sym (last_own system s c j own as_waiting)) (λ g. let le = count_moved (holds system g) s.jobs own.i own.x (as_waiting own.x) own.at (λ e. e) in let most = before g in omega (arith, le, most))

  ended_one : IsHeldByOne system (without_at (place_of s.jobs j) s.jobs)
  ended_one = subst (IsHeldByOne system) (sym (without_own system s c j own)) (λ g. let le = count_remove (holds system g) s.jobs own.i in let most = before g in omega (arith, le, most))

released_one : (system : PlanModel) (s : LogState) (j : JobId) (deadline : ℕ) → IsHeldByOne system s.jobs → IsHeldByOne system (s.jobs ++ released j deadline ∷ [])
released_one system s j deadline before g =
    let pushed = count_push (holds system g) s.jobs (released j deadline) in
    let nothing : one (holds system g (released j deadline)) ≡ 0 = ap one (holds_none system g (released j deadline) refl) in
    let most = before g in
    omega (arith, pushed, nothing, most)

step_one : (system : PlanModel) (s : LogState) (c : ℕ) (kind : LockAction) (j : JobId) (g : ℕ) → IsStep system s c kind j g → IsHeldByOne system s.jobs → IsHeldByOne system (jobs_stepped kind j s.jobs)
step_one system s c Lock j g step before = granted_one system s c j step.own before g (inl (not_true _ step.outcome, left_true _ _ (right_true (not step.own.x.waits) _ step.next)))
step_one system s c Acquire j g step before = granted_one system s c j step.own before g (inl (not_true _ (left_true _ _ step.outcome), right_true step.own.x.waits _ step.next))
step_one system s c Unlock j g step before = granted_one system s c j step.own before g (inr (left_true _ _ (right_true (not step.own.x.waits) _ step.next)))
step_one system s c Freed j g step before = granted_one system s c j step.own before g (inr (left_true _ _ (right_true (not step.own.x.waits) _ step.next)))
step_one system s c Request j g step before = waiting_one system s c j step.own before
step_one system s c Poll j g step before = before

action_one : (system : PlanModel) (tolerances : Tolerances) (s : LogState) (e : Event) (action : Action) → action_finding system tolerances s e action ≡ None → IsHeldByOne system s.jobs → IsHeldByOne system (jobs_with action s.jobs)
action_one system tolerances s e (Release j deadline) h before = released_one system s j deadline before
action_one system tolerances s e (Switch None) h before = before
action_one system tolerances s e (Switch (Some j)) h before = started_one system s e.core.0 j (legal_switch system s e.core.0 j h).0 before
action_one system tolerances s e (Step kind j r) h before = step_one system s e.core.0 kind j r.0 (legal_step system tolerances s e kind j r.0 h) before
action_one system tolerances s e (End j) h before = ended_one system s e.core.0 j (legal_end system s e.core.0 j h).0 before
action_one system tolerances s e Boot h before = before
action_one system tolerances s e Stop h before = before
action_one system tolerances s e Lost h before = before

pub log_one : (system : PlanModel) (tolerances : Tolerances) (s : LogState) (events : List Event) → finding_from system tolerances s events ≡ None → IsHeldByOne system s.jobs → IsHeldByOne system (state_from system s events).jobs
log_one system tolerances = kept_along system tolerances (λ s. IsHeldByOne system s.jobs) (λ s e runs h. action_one system tolerances s e e.action (accepted system tolerances s e runs h).action)
