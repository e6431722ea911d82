-- What is known where an event shows nothing: no test of its chain holds.
use Rattle.std.proofs.Common.{◌≡◌, ◌+◌, ◌<◌, ◌&&◌, ◌==◌, ◌∷◌, ◌++◌, ◌∙◌}
use Rattle.std.specs.Prelude.{remove}
use Rattle.msrp_plan.proofs.Common.{ℕ, Bool, true, false, cond, not, List, [], Option, Some, None, refl, ap, sym, arith, get_or, get_or_from_slice_get, set, slice_get, length, option_or, eqb-true, nat_le, nat_tests, slice_get-get_or, same_is, is_job_is, same_choice_is, PlanModel, core_of, is_job, same_choice}
use Rattle.std.proofs.lemmas.List.Quantifiers.{position-Some}
use Rattle.std.specs.Option.{option_and_then}
use Rattle.msrp_plan.specs.Jobs.{same_job}
use Rattle.msrp_plan.specs.declared.ids.JobId.{JobId}
use Rattle.msrp_events.specs.LiveJobs.{place_of, live}
use Rattle.msrp_events.specs.Choices.{choice}
use Rattle.msrp_events.specs.Changes.{LogState, no_job, core_at, next_at, changed_at, last_at, without_at, moved, state_with, state_from}
use Rattle.msrp_events.specs.Rules.{acts_late, is_next_step, has_outcome, is_done}
use Rattle.msrp_events.specs.Findings.{fault_if, lacks_if, absent, order_finding, step_of_finding, job_finding, switch_finding, step_finding, end_finding, end_of_finding, action_finding, continuity, record_finding, time_finding, finding_of, finding_from}
use Rattle.msrp_events.specs.declared.events.Event.{Event}
use Rattle.msrp_events.specs.declared.events.LockAction.{LockAction}
use Rattle.msrp_events.specs.declared.events.LockAction.TheVariants.{Lock, Unlock, Request, Acquire, Poll, Freed}
use Rattle.msrp_events.specs.declared.findings.Finding.{Finding}
use Rattle.msrp_events.specs.declared.findings.LogRule.{LogRule}
use Rattle.msrp_events.specs.declared.findings.LogRule.TheVariants.{E3, E4, E8, E9, E10}
use Rattle.msrp_events.specs.declared.findings.Missing.{Missing}
use Rattle.msrp_events.specs.declared.findings.Missing.TheVariants as missing
use Rattle.msrp_events.specs.declared.states.LiveJob.{LiveJob}
use Rattle.msrp_events.specs.declared.states.Tolerances.{Tolerances}

-- ---- the parts of a chain that shows nothing
pub or_parts : {X : Type 0} (a b : Option X) → option_or a b ≡ None → (a ≡ None) × (b ≡ None)
or_parts None b h = (refl, h)
or_parts (Some x) b h = absurd (cc)

pub fault_parts : (b : Bool) (rule : LogRule) (rest : Option Finding) → fault_if b rule rest ≡ None → (b ≡ false) × (rest ≡ None)
fault_parts true rule rest h = absurd (cc)
fault_parts false rule rest h = (refl, h)

pub lacks_parts : (b : Bool) (what : Missing) (rest : Option Finding) → lacks_if b what rest ≡ None → (b ≡ false) × (rest ≡ None)
lacks_parts true what rest h = absurd (cc)
lacks_parts false what rest h = (refl, h)

-- a step out of order shows something
pub order_parts : (b : Bool) (kind : LockAction) (rest : Option Finding) → order_finding b kind rest ≡ None → (b ≡ true) × (rest ≡ None)
order_parts true kind rest h = (refl, h)
order_parts false Lock rest h = absurd (cc)
order_parts false Unlock rest h = absurd (cc)
order_parts false Request rest h = absurd (cc)
order_parts false Acquire rest h = absurd (cc)
order_parts false Poll rest h = absurd (cc)
order_parts false Freed rest h = absurd (cc)

pub not_false : (b : Bool) → not b ≡ false → b ≡ true
not_false true h = refl
not_false false h = absurd (cc)

pub not_true : (b : Bool) → not b ≡ true → b ≡ false
not_true true h = absurd (cc)
not_true false h = refl

pub left_true : (a b : Bool) → (a && b) ≡ true → a ≡ true
left_true true b h = refl
left_true false b h = absurd (cc)

pub right_true : (a b : Bool) → (a && b) ≡ true → b ≡ true
right_true true b h = h
right_true false b h = absurd (cc)

pub below : (a b : ℕ) → nat_le a b ≡ false → b < a
below a b h = grind (arith, nat_tests)

-- ---- a job that acts is one of the core, released and not ended
pub record IsOwn (system : PlanModel) (s : LogState) (c : ℕ) (j : JobId) : Type 0 where
  pub i : ℕ
  pub x : LiveJob
  pub place : place_of s.jobs j ≡ Some i
  pub at : slice_get s.jobs i ≡ Some x
  pub name : x.job ≡ j
  pub first : (k : ℕ) → k < i → same_job (get_or s.jobs k no_job).job j ≡ false
  pub core : core_of system j ≡ c

found : (system : PlanModel) (s : LogState) (c : ℕ) (j : JobId) → core_of system j ≡ c → (n : ℕ) (o : Option ℕ) → place_of s.jobs j ≡ o → absent n j.k (option_and_then (slice_get s.jobs) o) ≡ None → IsOwn system s c j
found system s c j core n None at h = absurd (either (nat_le n j.k) h) where
  either : (b : Bool) → cond b (absent 0 0 None) (absent 1 0 None) ≡ None → ⊥
  either true h = absurd (cc)
  either false h = absurd (cc)
found system s c j core n (Some i) at h =
    let is = position-Some (λ (x : LiveJob). same_job x.job j) s.jobs i no_job at in
    record { i = i; x = get_or s.jobs i no_job; place = at; at = slice_get-get_or s.jobs i no_job is.0; name = same_is (get_or s.jobs i no_job).job j is.1; first = is.2; core = core }

pub own_job : (system : PlanModel) (s : LogState) (c : ℕ) (j : JobId) → job_finding system s c j ≡ None → IsOwn system s c j
own_job system s c j h =
    let known = fault_parts (nat_le (length system.tasks) j.task.0) E3 _ h in
    let core = fault_parts (not (core_of system j == c)) E4 _ known.1 in
    found system s c j (eqb-true (core_of system j) c (not_false _ core.0)) (next_at s.next j.task.0) (place_of s.jobs j) refl core.1

-- what is known of a job is found by its name
pub own_live : (system : PlanModel) (s : LogState) (c : ℕ) (j : JobId) → (own : IsOwn system s c j) → live s.jobs j ≡ Some own.x
own_live system s c j own = ap (option_and_then (slice_get s.jobs)) own.place ∙ own.at

-- what changes it changes one element
pub changed_own : (system : PlanModel) (s : LogState) (c : ℕ) (j : JobId) (own : IsOwn system s c j) (change : LiveJob → LiveJob) → changed_at (place_of s.jobs j) change s.jobs ≡ set s.jobs own.i (change own.x)
changed_own system s c j own change = ap (λ o. changed_at o change s.jobs) own.place ∙ ap (λ x. set s.jobs own.i (change x)) (get_or_from_slice_get s.jobs own.i own.x no_job own.at)

pub last_own : (system : PlanModel) (s : LogState) (c : ℕ) (j : JobId) (own : IsOwn system s c j) (change : LiveJob → LiveJob) → last_at (place_of s.jobs j) change s.jobs ≡ remove s.jobs own.i ++ change own.x ∷ []
last_own system s c j own change = ap (λ o. last_at o change s.jobs) own.place ∙ ap (λ x. remove s.jobs own.i ++ change x ∷ []) (get_or_from_slice_get s.jobs own.i own.x no_job own.at)

pub without_own : (system : PlanModel) (s : LogState) (c : ℕ) (j : JobId) (own : IsOwn system s c j) → without_at (place_of s.jobs j) s.jobs ≡ remove s.jobs own.i
without_own system s c j own = ap (λ o. without_at o s.jobs) own.place

-- ---- the actions
pub record IsStep (system : PlanModel) (s : LogState) (c : ℕ) (kind : LockAction) (j : JobId) (g : ℕ) : Type 0 where
  pub own : IsOwn system s c j
  pub runs : (core_at s.cores c).run ≡ Some j
  pub next : is_next_step system kind g own.x ≡ true
  pub outcome : has_outcome system s.jobs kind g j ≡ true

pub legal_step : (system : PlanModel) (tolerances : Tolerances) (s : LogState) (e : Event) (kind : LockAction) (j : JobId) (g : ℕ) → step_finding system tolerances s e kind j g ≡ None → IsStep system s e.core.0 kind j g
legal_step system tolerances s e kind j g h =
    let job = or_parts (job_finding system s e.core.0 j) _ h in
    let runs = fault_parts (not (is_job (core_at s.cores e.core.0).run j)) E8 _ job.1 in
    let late = fault_parts (acts_late tolerances e.time (core_at s.cores e.core.0)) E8 _ runs.1 in
    let own = own_job system s e.core.0 j job.0 in
    let next = order_parts (is_next_step system kind g own.x) kind _ (sym (ap (step_of_finding system s kind j g) (own_live system s e.core.0 j own)) ∙ late.1) in
    record { own = own; runs = is_job_is _ j (not_false _ runs.0); next = next.0; outcome = not_false _ (fault_parts (not (has_outcome system s.jobs kind g j)) E10 None next.1).0 }

pub legal_switch : (system : PlanModel) (s : LogState) (c : ℕ) (j : JobId) → switch_finding system s c (Some j) ≡ None → IsOwn system s c j × (choice system s.jobs c ≡ Some j)
legal_switch system s c j h =
    let job = or_parts (job_finding system s c j) _ h in
    (own_job system s c j job.0, sym (same_choice_is (Some j) (choice system s.jobs c) (not_false _ (fault_parts (not (same_choice (Some j) (choice system s.jobs c))) E8 None job.1).0)))

pub legal_end : (system : PlanModel) (s : LogState) (c : ℕ) (j : JobId) → end_finding system s c j ≡ None → (own : IsOwn system s c j) × (is_done system own.x ≡ true)
legal_end system s c j h =
    let job = or_parts (job_finding system s c j) _ h in
    let own = own_job system s c j job.0 in
    let runs = fault_parts (not (is_job (core_at s.cores c).run j)) E8 _ job.1 in
    (own, not_false _ (fault_parts (not (is_done system own.x)) E9 None (sym (ap (end_of_finding system) (own_live system s c j own)) ∙ runs.1)).0)

-- ---- an event
pub record IsAccepted (system : PlanModel) (tolerances : Tolerances) (s : LogState) (e : Event) : Type 0 where
  pub core : e.core.0 < length s.cores
  pub record_of : record_finding (core_at s.cores e.core.0) e e.action ≡ None
  pub time : time_finding tolerances s e ≡ None
  pub action : action_finding system tolerances s e e.action ≡ None

pub accepted : (system : PlanModel) (tolerances : Tolerances) (s : LogState) (e : Event) → s.stopped ≡ false → finding_of system tolerances s e ≡ None → IsAccepted system tolerances s e
accepted system tolerances s e runs h =
    let all = ap (λ b. cond b None (option_or (continuity s e) (option_or (time_finding tolerances s e) (action_finding system tolerances s e e.action)))) (sym runs) ∙ h in
    let first = or_parts (continuity s e) _ all in
    let second = or_parts (time_finding tolerances s e) _ first.1 in
    let core = lacks_parts (nat_le (length s.cores) e.core.0) missing.Core _ first.0 in
    record { core = below (length s.cores) e.core.0 core.0; record_of = core.1; time = second.0; action = second.1 }

pub running_with : (system : PlanModel) (s : LogState) (e : Event) → s.stopped ≡ false → state_with system s e ≡ moved system s e
running_with system s e runs = ap (λ b. cond b s (moved system s e)) runs

-- ---- the events of a log
-- what each event keeps that shows nothing holds after all that show nothing
pub kept_along : (system : PlanModel) (tolerances : Tolerances) (P : LogState → Type 0)
    → ((s : LogState) (e : Event) → s.stopped ≡ false → finding_of system tolerances s e ≡ None → P s → P (moved system s e))
    → (s : LogState) (events : List Event) → finding_from system tolerances s events ≡ None → P s → P (state_from system s events)
kept_along system tolerances P keeps s [] h before = before
kept_along system tolerances P keeps s (e ∷ events) h before =
    let parts = or_parts (finding_of system tolerances s e) _ h in
    kept_along system tolerances P keeps (state_with system s e) events parts.1 (by_stop s.stopped refl parts.0)
  where
    by_stop : (b : Bool) → s.stopped ≡ b → finding_of system tolerances s e ≡ None → P (cond b s (moved system s e))
    by_stop true is none = before
    by_stop false is none = keeps s e is none before

-- a log that hasn't stopped hadn't before
pub stays_stopped : (system : PlanModel) (s : LogState) (events : List Event) → s.stopped ≡ true → state_from system s events ≡ s
stays_stopped system s [] h = refl
stays_stopped system s (e ∷ events) h = let same : state_with system s e ≡ s = ap (λ b. cond b s (moved system s e)) h in ap (λ t. state_from system t events) same ∙ stays_stopped system s events h

pub ran_before : (system : PlanModel) (s : LogState) (events : List Event) → (state_from system s events).stopped ≡ false → s.stopped ≡ false
ran_before system s events h = by_stop s.stopped refl where
  by_stop : (b : Bool) → s.stopped ≡ b → s.stopped ≡ false
  by_stop true is = absurd (let e = ap (λ (t : LogState). t.stopped) (stays_stopped system s events is) in let f : true ≡ false = sym is ∙ (sym e ∙ h) in cc)
  by_stop false is = is
