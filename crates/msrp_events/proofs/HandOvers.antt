-- In a legal log no resource is free for too long while a job awaits it: only steps on a resource
-- change who holds and who awaits it.
use Rattle.std.proofs.Common.{◌≡◌, ◌<◌, ◌≤◌, ◌+◌, ◌&&◌, ◌||◌, ◌==◌, ◌∷◌, ◌++◌, ◌∙◌}
use Rattle.std.specs.Prelude.{remove}
use Rattle.msrp_plan.proofs.Common.{ℕ, zero, suc, Bool, true, false, not, List, [], Option, Some, None, is_some, refl, ap, sym, subst, arith, length, set, slice_get, take, take_all, nat_lt, nat_tests, list_any, or-false, count_by, get_or-replicate, get_or-set_same, get_or-set_other, length-set, length-replicate, eqb-true, eqb-false, PlanModel}
use Rattle.std.proofs.lemmas.Bool.{or_parts}
use Rattle.msrp_plan.proofs.Lists.AnyAll.{any_push}
use Rattle.msrp_plan.specs.Plan.{units}
use Rattle.msrp_plan.specs.Units.{is_lock_of, is_unlock_of, holds_after}
use Rattle.msrp_plan.specs.declared.ids.JobId.{JobId}
use Rattle.msrp_plan.specs.declared.units.Op.{Op}
use Rattle.msrp_plan.specs.declared.units.Op.TheVariants as unit
use Rattle.msrp_events.specs.LiveJobs.{awaits, holds, is_awaited, is_held, next_unit, locks_next, unlocks_next, place_of}
use Rattle.msrp_events.specs.Changes.{LogState, first_state, free_at, changed_at, last_at, without_at, as_started, as_waiting, as_stepped, released, jobs_stepped, jobs_with, free_timed, resource_touched, clock_after, is_ungranted, moved}
use Rattle.msrp_events.specs.Rules.{is_late, any_late, is_done}
use Rattle.msrp_events.specs.Findings.{action_finding}
use Rattle.msrp_events.specs.Laws.{AreBalanced, HoldsFrom, is_due, state_after}
use Rattle.msrp_events.specs.declared.events.Action.{Action}
use Rattle.msrp_events.specs.declared.events.Action.TheVariants.{Boot, Release, Switch, Step, End, Stop, Lost}
use Rattle.msrp_events.specs.declared.events.Event.{Event}
use Rattle.msrp_events.specs.declared.events.LockAction.{LockAction}
use Rattle.msrp_events.specs.declared.events.LockAction.TheVariants.{Lock, Unlock, Request, Acquire, Poll, Freed}
use Rattle.msrp_events.specs.declared.findings.LogRule.TheVariants.{E1, E2}
use Rattle.msrp_events.specs.declared.states.LiveJob.{LiveJob}
use Rattle.msrp_events.specs.declared.states.Tolerances.{Tolerances}
use Rattle.msrp_events.proofs.Clocks.{IsClocked, clock_stays, clock_since}
use Rattle.msrp_events.proofs.LegalEvents.{IsOwn, IsStep, legal_step, legal_switch, legal_end, changed_own, last_own, without_own, accepted, fault_parts, left_true, right_true, not_true}
use Rattle.msrp_events.proofs.OneHolder.{one, count_push, holds_none, units_more}

-- ---- tests of some element of a changed list
any_set : {X : Type 0} (p : X → Bool) (xs : List X) (i : ℕ) (x y : X) → slice_get xs i ≡ Some x → p y ≡ p x → list_any p (set xs i y) ≡ list_any p xs
any_set p [] i x y at same = absurd (cc)
any_set p (z ∷ xs) zero x y at same = let e : z ≡ x = cc in ap (λ b. b || list_any p xs) (same ∙ ap p (sym e))
any_set p (z ∷ xs) (suc i) x y at same = ap (λ b. p z || b) (any_set p xs i x y at same)

any_moved : {X : Type 0} (p : X → Bool) (xs : List X) (i : ℕ) (x y : X) → slice_get xs i ≡ Some x → p y ≡ p x → list_any p (remove xs i ++ y ∷ []) ≡ list_any p xs
any_moved p [] i x y at same = absurd (cc)
any_moved p (z ∷ xs) zero x y at same = let e : z ≡ x = cc in any_push p xs y ∙ (ap (λ b. list_any p xs || b) (same ∙ ap p (sym e)) ∙ swap (list_any p xs) (p z)) where
  swap : (a b : Bool) → (a || b) ≡ (b || a)
  swap true true = refl
  swap true false = refl
  swap false true = refl
  swap false false = refl
any_moved p (z ∷ xs) (suc i) x y at same = ap (λ b. p z || b) (any_moved p xs i x y at same)

any_remove : {X : Type 0} (p : X → Bool) (xs : List X) (i : ℕ) (x : X) → slice_get xs i ≡ Some x → p x ≡ false → list_any p (remove xs i) ≡ list_any p xs
any_remove p [] i x at fails = absurd (cc)
any_remove p (z ∷ xs) zero x at fails = let e : z ≡ x = cc in sym (ap (λ b. b || list_any p xs) (ap p e ∙ fails))
any_remove p (z ∷ xs) (suc i) x at fails = ap (λ b. p z || b) (any_remove p xs i x at fails)

-- ---- a step on another resource
-- it doesn't change whether the job holds or awaits this one
unit_elsewhere : (us : List Op) (u : Op) (g : ℕ) → is_lock_of g u ≡ false → is_unlock_of g u ≡ false → holds_after (us ++ u ∷ []) g ≡ holds_after us g
unit_elsewhere us u g lock unlock =
    let a = count_push (is_lock_of g) us u in
    let b = count_push (is_unlock_of g) us u in
    let c : one (is_lock_of g u) ≡ 0 = ap one lock in
    let d : one (is_unlock_of g u) ≡ 0 = ap one unlock in
    let e : count_by (is_lock_of g) (us ++ u ∷ []) ≡ count_by (is_lock_of g) us = omega (arith, a, c) in
    let f : count_by (is_unlock_of g) (us ++ u ∷ []) ≡ count_by (is_unlock_of g) us = omega (arith, b, d) in
    ap (λ n. nat_lt n (count_by (is_lock_of g) (us ++ u ∷ []))) f ∙ ap (λ n. nat_lt (count_by (is_unlock_of g) us) n) e

-- the next unit is on the resource h, and not on g
abbrev IsElsewhere : ℕ → Option Op → Type 0
IsElsewhere g o = (u : Op) × (o ≡ Some u) × (is_lock_of g u ≡ false) × (is_unlock_of g u ≡ false)

locks_elsewhere : (o : Option Op) (h g : ℕ) → locks_next h o ≡ true → (h == g) ≡ false → IsElsewhere g o
locks_elsewhere None h g l other = absurd (cc)
locks_elsewhere (Some unit.Run) h g l other = absurd (cc)
locks_elsewhere (Some (unit.Lock r)) h g l other = (unit.Lock r, refl, ap (λ n. n == g) (eqb-true r.0 h l) ∙ other, refl)
locks_elsewhere (Some (unit.Unlock r)) h g l other = absurd (cc)

unlocks_elsewhere : (o : Option Op) (h g : ℕ) → unlocks_next h o ≡ true → (h == g) ≡ false → IsElsewhere g o
unlocks_elsewhere None h g l other = absurd (cc)
unlocks_elsewhere (Some unit.Run) h g l other = absurd (cc)
unlocks_elsewhere (Some (unit.Lock r)) h g l other = absurd (cc)
unlocks_elsewhere (Some (unit.Unlock r)) h g l other = (unit.Unlock r, refl, refl, ap (λ n. n == g) (eqb-true r.0 h l) ∙ other)

stepped_holds : (system : PlanModel) (g : ℕ) (x : LiveJob) → IsElsewhere g (next_unit system x) → holds system g (as_stepped x) ≡ holds system g x
stepped_holds system g x away = ap (λ us. holds_after us g) (units_more (units system x.job) x.step away.0 away.1) ∙ unit_elsewhere (take x.step (units system x.job)) away.0 g away.2 away.3

elsewhere_locks : (g : ℕ) (o : Option Op) → IsElsewhere g o → locks_next g o ≡ false
elsewhere_locks g o away = ap (locks_next g) away.1 ∙ away.2

and_false : (a b : Bool) → b ≡ false → (a && b) ≡ false
and_false true b h = h
and_false false b h = refl

-- ---- who holds and who awaits the resource
abbrev IsSame : PlanModel → ℕ → List LiveJob → List LiveJob → Type 0
IsSame system g jobs before = (is_awaited system jobs g ≡ is_awaited system before g) × (is_held system jobs g ≡ is_held system before g)

module _ (system : PlanModel) (s : LogState) (c : ℕ) (j : JobId) (own : IsOwn system s c j) (g : ℕ) where
  set_same : (change : LiveJob → LiveJob) → awaits system g (change own.x) ≡ awaits system g own.x → holds system g (change own.x) ≡ holds system g own.x → IsSame system g (changed_at (place_of s.jobs j) change s.jobs) s.jobs
  set_same change a h = subst (λ js. IsSame system g js s.jobs) (sym (changed_own system s c j own change))
      (any_set (awaits system g) s.jobs own.i own.x (change own.x) own.at a, any_set (holds system g) s.jobs own.i own.x (change own.x) own.at h)

  stepped_same : IsElsewhere g (next_unit system own.x) → IsSame system g (changed_at (place_of s.jobs j) as_stepped s.jobs) s.jobs
  stepped_same away = set_same as_stepped (sym (and_false own.x.waits _ (elsewhere_locks g (next_unit system own.x) away))) (stepped_holds system g own.x away)

  last_same : IsElsewhere g (next_unit system own.x) → IsSame system g (last_at (place_of s.jobs j) as_waiting s.jobs) s.jobs
  last_same away =
      let idle = elsewhere_locks g (next_unit system own.x) away in
      subst (λ js. IsSame system g js s.jobs) (sym (last_own system s c j own as_waiting))
      (any_moved (awaits system g) s.jobs own.i own.x (as_waiting own.x) own.at (idle ∙ sym (and_false own.x.waits _ idle)), any_moved (holds system g) s.jobs own.i own.x (as_waiting own.x) own.at refl)

  -- a job that ends holds nothing
  ended_same : AreBalanced system → is_done system own.x ≡ true → IsSame system g (without_at (place_of s.jobs j) s.jobs) s.jobs
  ended_same balanced done =
      let idle : awaits system g own.x ≡ false = ap (λ b. b && locks_next g (next_unit system own.x)) (not_true _ (left_true _ _ done)) in
      let last = eqb-true own.x.step (length (units system own.x.job)) (right_true (not own.x.waits) _ done) in
      let all : take own.x.step (units system own.x.job) ≡ units system own.x.job = take_all own.x.step (units system own.x.job) (omega (arith, last)) in
      let none : holds system g own.x ≡ false = ap (λ us. holds_after us g) all ∙ balanced own.x.job.task.0 g in
      subst (λ js. IsSame system g js s.jobs) (sym (without_own system s c j own))
      (any_remove (awaits system g) s.jobs own.i own.x own.at idle, any_remove (holds system g) s.jobs own.i own.x own.at none)

released_same : (system : PlanModel) (s : LogState) (j : JobId) (deadline g : ℕ) → IsSame system g (s.jobs ++ released j deadline ∷ []) s.jobs
released_same system s j deadline g = (
  any_push (awaits system g) s.jobs (released j deadline) ∙ or-false (is_awaited system s.jobs g),
  any_push (holds system g) s.jobs (released j deadline) ∙ (ap (λ b. is_held system s.jobs g || b) (holds_none system g (released j deadline) refl) ∙ or-false (is_held system s.jobs g)),
)

-- the action isn't on the resource
abbrev is_on : ℕ → Action → Bool
is_on g (Step kind j r) = r.0 == g
is_on g _ = false

module _ (system : PlanModel) (tolerances : Tolerances) (balanced : AreBalanced system) (s : LogState) (e : Event) (g : ℕ) where
  step_same : (kind : LockAction) (j : JobId) (h : ℕ) → (h == g) ≡ false → IsStep system s e.core.0 kind j h → IsSame system g (jobs_stepped kind j s.jobs) s.jobs
  step_same Lock j h other step = stepped_same system s e.core.0 j step.own g (locks_elsewhere (next_unit system step.own.x) h g (left_true _ _ (right_true (not step.own.x.waits) _ step.next)) other)
  step_same Unlock j h other step = stepped_same system s e.core.0 j step.own g (unlocks_elsewhere (next_unit system step.own.x) h g (left_true _ _ (right_true (not step.own.x.waits) _ step.next)) other)
  step_same Request j h other step = last_same system s e.core.0 j step.own g (locks_elsewhere (next_unit system step.own.x) h g (left_true _ _ (right_true (not step.own.x.waits) _ step.next)) other)
  step_same Acquire j h other step = stepped_same system s e.core.0 j step.own g (locks_elsewhere (next_unit system step.own.x) h g (right_true step.own.x.waits _ step.next) other)
  step_same Poll j h other step = (refl, refl)
  step_same Freed j h other step = stepped_same system s e.core.0 j step.own g (unlocks_elsewhere (next_unit system step.own.x) h g (left_true _ _ (right_true (not step.own.x.waits) _ step.next)) other)

  action_same : (a : Action) → is_on g a ≡ false → action_finding system tolerances s e a ≡ None → IsSame system g (jobs_with a s.jobs) s.jobs
  action_same (Release j deadline) other h = released_same system s j deadline g
  action_same (Switch None) other h = (refl, refl)
  action_same (Switch (Some j)) other h = set_same system s e.core.0 j (legal_switch system s e.core.0 j h).0 g as_started refl refl
  action_same (Step kind j r) other h = step_same kind j r.0 other (legal_step system tolerances s e kind j r.0 h)
  action_same (End j) other h = let it = legal_end system s e.core.0 j h in ended_same system s e.core.0 j it.0 g balanced it.1
  action_same Boot other h = (refl, refl)
  action_same Stop other h = (refl, refl)
  action_same Lost other h = (refl, refl)

  -- the clock of the resource looks at each event
  clock_of : (a : Action) → action_finding system tolerances s e a ≡ None → length s.free ≡ length system.resources → g < length system.resources → is_some (free_at s.free g) ≡ is_ungranted system s.jobs g
      → free_at (free_timed system (jobs_with a s.jobs) (resource_touched a) e.time s.free) g ≡ clock_after (is_ungranted system (jobs_with a s.jobs) g) (free_at s.free g) e.time
  clock_of a h size within before = by_resource a (is_on g a) refl h where
    kept : (a : Action) → IsSame system g (jobs_with a s.jobs) s.jobs → free_at s.free g ≡ clock_after (is_ungranted system (jobs_with a s.jobs) g) (free_at s.free g) e.time
    kept a same =
        let is : is_ungranted system (jobs_with a s.jobs) g ≡ is_ungranted system s.jobs g = ap (λ b. b && not (is_held system (jobs_with a s.jobs) g)) same.0 ∙ ap (λ b. is_awaited system s.jobs g && not b) same.1 in
        clock_stays (free_at s.free g) e.time ∙ ap (λ b. clock_after b (free_at s.free g) e.time) (before ∙ sym is)

    by_resource : (a : Action) (b : Bool) → is_on g a ≡ b → action_finding system tolerances s e a ≡ None → free_at (free_timed system (jobs_with a s.jobs) (resource_touched a) e.time s.free) g ≡ clock_after (is_ungranted system (jobs_with a s.jobs) g) (free_at s.free g) e.time
    by_resource (Step kind j r) true same h =
        let is : g ≡ r.0 = sym (eqb-true r.0 g same) in
        let jobs = jobs_with (Step kind j r) s.jobs in
        let clock : ℕ → Option ℕ = λ i. clock_after (is_ungranted system jobs i) (free_at s.free i) e.time in
        ap (λ i. free_at (set s.free i (clock i)) g) (sym is) ∙ get_or-set_same s.free g (clock g) None (omega (arith, size, within))
    by_resource (Step kind j r) false other h =
        let jobs = jobs_with (Step kind j r) s.jobs in
        get_or-set_other s.free r.0 g (clock_after (is_ungranted system jobs r.0) (free_at s.free r.0) e.time) None (λ is. eqb-false r.0 g other (sym is)) ∙ kept (Step kind j r) (action_same (Step kind j r) other h)
    by_resource (Release j d) b is h = kept (Release j d) (action_same (Release j d) refl h)
    by_resource (Switch j) b is h = kept (Switch j) (action_same (Switch j) refl h)
    by_resource (End j) b is h = kept (End j) (action_same (End j) refl h)
    by_resource Boot b is h = kept Boot (action_same Boot refl h)
    by_resource Stop b is h = kept Stop (action_same Stop refl h)
    by_resource Lost b is h = kept Lost (action_same Lost refl h)

sized : (system : PlanModel) (s : LogState) (e : Event) → length s.free ≡ length system.resources → length (moved system s e).free ≡ length system.resources
sized system s e size = by_resource (resource_touched e.action) where
  by_resource : (o : Option ℕ) → length (free_timed system (jobs_with e.action s.jobs) o e.time s.free) ≡ length system.resources
  by_resource None = size
  by_resource (Some g) = length-set s.free g (clock_after (is_ungranted system (jobs_with e.action s.jobs) g) (free_at s.free g) e.time) ∙ size

not_late : (wait now t : ℕ) (free : List (Option ℕ)) (g : ℕ) → list_any (is_late wait now) free ≡ false → free_at free g ≡ Some t → now ≤ t + wait
not_late wait now t [] g none at = absurd (cc)
not_late wait now t (x ∷ free) zero none at = let late = sym (ap (is_late wait now) at) ∙ (or_parts (is_late wait now x) _ none).0 in grind (arith, nat_tests)
not_late wait now t (x ∷ free) (suc g) none at = not_late wait now t free g (or_parts (is_late wait now x) _ none).1 at

pub handed_over : (system : PlanModel) (tolerances : Tolerances) (start : List Event) (d : Event) (mid : List Event) (e : Event) (g : ℕ) → AreBalanced system → g < length system.resources → HoldsFrom system tolerances (is_due system g) start d mid e
    → e.time ≤ d.time + (tolerances.operation + tolerances.slack + tolerances.skew)
handed_over system tolerances start d mid e g balanced within due =
    let after = state_after system (start ++ d ∷ mid) in
    let it = clock_since system tolerances (λ t. length t.free ≡ length system.resources) (λ t. free_at t.free g) (is_due system g) (sized system)
    (λ s e runs h before. clock_of system tolerances balanced s e g e.action (accepted system tolerances s e runs h).action before.parts within before.runs) begins start d mid e due in
    let time = fault_parts _ E1 _ (accepted system tolerances after e due.runs it.2).time in
    not_late (tolerances.operation + tolerances.slack + tolerances.skew) e.time d.time after.free g (fault_parts (any_late tolerances after.free e.time) E2 None time.1).0 it.1
  where
    begins : IsClocked (λ t. length t.free ≡ length system.resources) (λ t. free_at t.free g) (is_due system g) (first_state system)
    begins = record { parts = length-replicate (length system.resources) None; runs = ap is_some (get_or-replicate (length system.resources) g None None within) }
