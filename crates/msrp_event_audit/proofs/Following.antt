-- What the events show with one more, and what is known where it shows nothing.
use Rattle.std.proofs.Common.{◌≡◌, ◌+◌, ◌<◌, ◌&&◌, ◌∷◌, ◌++◌, ◌∙◌}
use Rattle.msrp_plan.proofs.Common.{ℕ, suc, zero, Bool, true, false, not, List, [], Option, Some, None, refl, ap, sym, arith, option_or, nat_le, fold_push, nat_tests, PlanModel, All, AllByRecursion, recursion_from_All, All-from_recursion}
use Rattle.std.specs.Prelude.{remove}
use Rattle.msrp_plan.specs.declared.units.Op.{Op}
use Rattle.msrp_events.proofs.FirstFindings.{finding-append, start_shows}
use Rattle.msrp_events.specs.LiveJobs.{next_unit, locks_next, unlocks_next}
use Rattle.msrp_events.specs.Changes.{LogState, first_state, state_with, state_from}
use Rattle.msrp_events.specs.Rules.{is_next_step}
use Rattle.msrp_events.specs.Findings.{finding_of, finding_in, fault_if, lacks_if, order_finding}
use Rattle.msrp_events.specs.declared.events.Event.{Event}
use Rattle.msrp_events.specs.declared.events.LockAction.{LockAction}
use Rattle.msrp_events.specs.declared.events.LockAction.TheVariants.{Lock, Unlock, Request, Acquire, Poll, Freed}
use Rattle.msrp_events.specs.declared.findings.Finding.{Finding}
use Rattle.msrp_events.specs.declared.findings.LogRule.{LogRule}
use Rattle.msrp_events.specs.declared.findings.Missing.{Missing}
use Rattle.msrp_events.specs.declared.states.LiveJob.{LiveJob}
use Rattle.msrp_events.specs.declared.states.Tolerances.{Tolerances}

-- ---- one event more
or_none : {X : Type 0} (a : Option X) → option_or a None ≡ a
or_none None = refl
or_none (Some x) = refl

-- what shows something shows it whatever follows
pub shown : (system : PlanModel) (tolerances : Tolerances) (events : List Event) (e : Event) (found : Finding) → finding_in system tolerances events ≡ Some found → finding_in system tolerances (events ++ e ∷ []) ≡ Some found
shown system tolerances events e found h = start_shows system tolerances (first_state system) events (e ∷ []) found h

-- after events that show nothing it is what the next one shows
pub shows_next : (system : PlanModel) (tolerances : Tolerances) (events : List Event) (e : Event) (s : LogState) → finding_in system tolerances events ≡ None → s ≡ state_from system (first_state system) events
    → finding_in system tolerances (events ++ e ∷ []) ≡ finding_of system tolerances s e
shows_next system tolerances events e s h is =
    finding-append system tolerances (first_state system) events (e ∷ [])
    ∙ (ap (λ x. option_or x (option_or (finding_of system tolerances (state_from system (first_state system) events) e) None)) h
    ∙ (or_none (finding_of system tolerances (state_from system (first_state system) events) e) ∙ ap (λ t. finding_of system tolerances t e) (sym is)))

pub next_state : (system : PlanModel) (events : List Event) (e : Event) (s : LogState) → s ≡ state_from system (first_state system) events → state_with system s e ≡ state_from system (first_state system) (events ++ e ∷ [])
next_state system events e s is = ap (λ t. state_with system t e) is ∙ sym (fold_push (state_with system) (first_state system) events e)

-- ---- what is known where an event shows nothing
pub or_parts : {X : Type 0} (a b : Option X) → option_or a b ≡ None → (a ≡ None) × (b ≡ None)
or_parts None b h = (refl, h)
or_parts (Some x) b h = absurd (cc)

pub fault_parts : (b : Bool) (rule : LogRule) (rest : Option Finding) → fault_if b rule rest ≡ None → (b ≡ false) × (rest ≡ None)
fault_parts true rule rest h = absurd (cc)
fault_parts false rule rest h = (refl, h)

pub lacks_parts : (b : Bool) (what : Missing) (rest : Option Finding) → lacks_if b what rest ≡ None → (b ≡ false) × (rest ≡ None)
lacks_parts true what rest h = absurd (cc)
lacks_parts false what rest h = (refl, h)

pub below : (a b : ℕ) → nat_le a b ≡ false → b < a
below a b h = grind (arith, nat_tests)

-- a step that is the job's next one leaves room for the count of its steps
some_unit : (o : Option Op) (g : ℕ) → locks_next g o ≡ true → (u : Op) × (o ≡ Some u)
some_unit None g h = absurd (cc)
some_unit (Some u) g h = (u, refl)

some_unlock : (o : Option Op) (g : ℕ) → unlocks_next g o ≡ true → (u : Op) × (o ≡ Some u)
some_unlock None g h = absurd (cc)
some_unlock (Some u) g h = (u, refl)

left_true : (a b : Bool) → (a && b) ≡ true → a ≡ true
left_true true b h = refl
left_true false b h = absurd (cc)

right_true : (a b : Bool) → (a && b) ≡ true → b ≡ true
right_true true b h = h
right_true false b h = absurd (cc)

pub has_unit : (system : PlanModel) (kind : LockAction) (g : ℕ) (j : LiveJob) → is_next_step system kind g j ≡ true → (u : Op) × (next_unit system j ≡ Some u)
has_unit system Lock g j h = some_unit (next_unit system j) g (left_true _ _ (right_true (not j.waits) _ h))
has_unit system Unlock g j h = some_unlock (next_unit system j) g (left_true _ _ (right_true (not j.waits) _ h))
has_unit system Request g j h = some_unit (next_unit system j) g (left_true _ _ (right_true (not j.waits) _ h))
has_unit system Freed g j h = some_unlock (next_unit system j) g (left_true _ _ (right_true (not j.waits) _ h))
has_unit system Acquire g j h = some_unit (next_unit system j) g (right_true j.waits _ h)
has_unit system Poll g j h = some_unit (next_unit system j) g (right_true j.waits _ h)

pub in_order : (b : Bool) (kind : LockAction) (rest : Option Finding) → order_finding b kind rest ≡ None → b ≡ true
in_order true kind rest h = refl
in_order false Acquire rest h = absurd (cc)
in_order false Lock rest h = absurd (cc)
in_order false Unlock rest h = absurd (cc)
in_order false Request rest h = absurd (cc)
in_order false Poll rest h = absurd (cc)
in_order false Freed rest h = absurd (cc)

-- ---- jobs stay those of the system's tasks
removed : {X : Type 0} (P : X → Type 0) (xs : List X) (i : ℕ) → AllByRecursion P xs → AllByRecursion P (remove xs i)
removed P [] zero all = all
removed P [] (suc i) all = all
removed P (x ∷ xs) zero all = all.1
removed P (x ∷ xs) (suc i) all = (all.0, removed P xs i all.1)

pub All-remove : {X : Type 0} (P : X → Type 0) (xs : List X) (i : ℕ) → All P xs → All P (remove xs i)
All-remove P xs i all = All-from_recursion P (remove xs i) (removed P xs i (recursion_from_All P xs all))
