-- In a legal log the jobs acquire a resource in the order in which they requested it.
use Rattle.std.proofs.Common.{◌≡◌, ◌+◌, ◌<◌, ◌&&◌, ◌==◌, ◌∷◌, ◌++◌, ◌∙◌}
use Rattle.std.specs.Prelude.{remove, find}
use Rattle.msrp_plan.proofs.Common.{ℕ, zero, suc, Bool, true, false, cond, not, List, [], Option, Some, None, refl, ap, sym, subst, arith, get_or, set, slice_get, filter, map, cons_option, option_map, append-nil, append_assoc, map-append, filter-append, eqb-true, same_job, PlanModel, is_job}
use Rattle.msrp_plan.specs.declared.ids.JobId.{JobId}
use Rattle.msrp_plan.specs.declared.units.Op.{Op}
use Rattle.msrp_plan.specs.declared.units.Op.TheVariants as unit
use Rattle.msrp_events.specs.LiveJobs.{awaits, next_unit, locks_next, place_of}
use Rattle.msrp_events.specs.Changes.{LogState, no_job, changed_at, last_at, as_started, as_waiting, as_stepped, released, jobs_with, state_with, state_from}
use Rattle.msrp_events.specs.Findings.{action_finding, finding_of, finding_from}
use Rattle.msrp_events.specs.Laws.{is_request, is_acquire, job_by, jobs_by, waiting}
use Rattle.msrp_events.specs.declared.events.Action.{Action}
use Rattle.msrp_events.specs.declared.events.Action.TheVariants.{Boot, Release, Switch, Step, End, Stop, Lost}
use Rattle.msrp_events.specs.declared.events.Event.{Event}
use Rattle.msrp_events.specs.declared.events.LockAction.{LockAction}
use Rattle.msrp_events.specs.declared.events.LockAction.TheVariants.{Lock, Unlock, Request, Acquire, Poll, Freed}
use Rattle.msrp_events.specs.declared.states.LiveJob.{LiveJob}
use Rattle.msrp_events.specs.declared.states.Tolerances.{Tolerances}
use Rattle.msrp_events.proofs.LegalEvents.{IsOwn, IsStep, legal_step, legal_switch, legal_end, changed_own, last_own, without_own, accepted, running_with, ran_before, or_parts, left_true, right_true, not_true}

-- ---- what a filter keeps of a changed list
abbrev named : (LiveJob → Bool) → List LiveJob → List JobId
named p xs = map (λ x. x.job) (filter p xs)

-- a job is changed, and passes as before
kept_set : (p : LiveJob → Bool) (xs : List LiveJob) (i : ℕ) (x y : LiveJob) → slice_get xs i ≡ Some x → p y ≡ p x → y.job ≡ x.job → named p (set xs i y) ≡ named p xs
kept_set p [] i x y at same name = absurd (cc)
kept_set p (z ∷ xs) zero x y at same name =
    let e : z ≡ x = cc in
    ap (λ b. map (λ w. w.job) (cond b (y ∷ filter p xs) (filter p xs))) (same ∙ ap p (sym e)) ∙ renamed (p z) y z (name ∙ ap (λ w. w.job) (sym e))
  where
    renamed : (b : Bool) (u v : LiveJob) → u.job ≡ v.job → map (λ w. w.job) (cond b (u ∷ filter p xs) (filter p xs)) ≡ map (λ w. w.job) (cond b (v ∷ filter p xs) (filter p xs))
    renamed true u v e = ap (λ n. n ∷ named p xs) e
    renamed false u v e = refl
kept_set p (z ∷ xs) (suc i) x y at same name = more (p z) (kept_set p xs i x y at same name) where
  more : (b : Bool) → named p (set xs i y) ≡ named p xs → map (λ w. w.job) (cond b (z ∷ filter p (set xs i y)) (filter p (set xs i y))) ≡ map (λ w. w.job) (cond b (z ∷ filter p xs) (filter p xs))
  more true e = ap (λ w. z.job ∷ w) e
  more false e = e

-- one that doesn't pass is removed
pub kept_remove : {X : Type 0} (p : X → Bool) (xs : List X) (i : ℕ) (x : X) → slice_get xs i ≡ Some x → p x ≡ false → filter p (remove xs i) ≡ filter p xs
kept_remove p [] i x at fails = absurd (cc)
kept_remove p (z ∷ xs) zero x at fails = let e : z ≡ x = cc in sym (ap (λ b. cond b (z ∷ filter p xs) (filter p xs)) (ap p e ∙ fails))
kept_remove p (z ∷ xs) (suc i) x at fails = ap (λ ys. cond (p z) (z ∷ ys) ys) (kept_remove p xs i x at fails)

-- the first that passes is the first of its name; it is changed, and passes no more
taken : (p : LiveJob → Bool) (j : JobId) (xs : List LiveJob) (i : ℕ) (x y : LiveJob) → ((k : ℕ) → k < i → same_job (get_or xs k no_job).job j ≡ false) → slice_get xs i ≡ Some x → x.job ≡ j → p x ≡ true → p y ≡ false
    → is_job (option_map (λ z. z.job) (find p xs)) j ≡ true → named p xs ≡ j ∷ named p (set xs i y)
taken p j [] i x y before at name passes fails first = absurd (cc)
taken p j (z ∷ xs) zero x y before at name passes fails first =
    let e : z ≡ x = cc in
    ap (λ b. map (λ w. w.job) (cond b (z ∷ filter p xs) (filter p xs))) (ap p e ∙ passes)
    ∙ (ap (λ n. n ∷ named p xs) (ap (λ w. w.job) e ∙ name)
    ∙ ap (λ b. j ∷ map (λ w. w.job) (cond b (y ∷ filter p xs) (filter p xs))) (sym fails))
taken p j (z ∷ xs) (suc i) x y before at name passes fails first = by_first (p z) first (λ h. taken p j xs i x y (λ k l. before (suc k) (omega arith)) at name passes fails h) where
  by_first : (b : Bool) → is_job (option_map (λ w. w.job) (cond b (Some z) (find p xs))) j ≡ true → (is_job (option_map (λ w. w.job) (find p xs)) j ≡ true → named p xs ≡ j ∷ named p (set xs i y)) → map (λ w. w.job) (cond b (z ∷ filter p xs) (filter p xs)) ≡ j ∷ map (λ w. w.job) (cond b (z ∷ filter p (set xs i y)) (filter p (set xs i y)))
  by_first true h rest = let other = before 0 (omega arith) in absurd (cc)
  by_first false h rest = rest h

-- ---- what an event does to those that await a resource
-- a job that doesn't wait awaits nothing
not_awaits : (system : PlanModel) (g : ℕ) (x : LiveJob) → x.waits ≡ false → awaits system g x ≡ false
not_awaits system g x h = ap (λ b. b && locks_next g (next_unit system x)) h

-- a job's next unit locks one resource
pub one_lock : (o : Option Op) (g h : ℕ) → locks_next g o ≡ true → (g == h) ≡ false → locks_next h o ≡ false
one_lock None g h l other = absurd (cc)
one_lock (Some unit.Run) g h l other = absurd (cc)
one_lock (Some (unit.Lock r)) g h l other = ap (λ n. n == h) (eqb-true r.0 g l) ∙ other
one_lock (Some (unit.Unlock r)) g h l other = absurd (cc)

step_quiet : (system : PlanModel) (s : LogState) (c : ℕ) (j : JobId) (g : ℕ) → (own : IsOwn system s c j) → awaits system g own.x ≡ false → waiting system g (changed_at (place_of s.jobs j) as_stepped s.jobs) ≡ waiting system g s.jobs
step_quiet system s c j g own idle = ap (waiting system g) (changed_own system s c j own as_stepped) ∙ kept_set (awaits system g) s.jobs own.i own.x (as_stepped own.x) own.at (sym idle) refl

-- each step but a request and an acquisition
plain_step : (system : PlanModel) (s : LogState) (c : ℕ) (kind : LockAction) (j : JobId) (h g : ℕ) (b : Bool) (step : IsStep system s c kind j h) → (not step.own.x.waits && b) ≡ true → waiting system g (changed_at (place_of s.jobs j) as_stepped s.jobs) ≡ waiting system g s.jobs
plain_step system s c kind j h g b step next = step_quiet system s c j g step.own (not_awaits system g step.own.x (not_true _ (left_true _ _ next)))

-- a request puts the job last
requested : (system : PlanModel) (s : LogState) (c : ℕ) (j : JobId) (h g : ℕ) (step : IsStep system s c Request j h) (rest : List JobId)
    → waiting system g s.jobs ++ cons_option (cond (h == g) (Some j) None) rest ≡ waiting system g (last_at (place_of s.jobs j) as_waiting s.jobs) ++ rest
requested system s c j h g step rest =
    let own = step.own in
    let idle = not_awaits system g own.x (not_true _ (left_true _ _ step.next)) in
    let locks = left_true _ _ (right_true (not own.x.waits) _ step.next) in
    sym (ap (λ xs. waiting system g xs ++ rest) (last_own system s c j own as_waiting)
    ∙ (ap (λ xs. map (λ w. w.job) xs ++ rest) (filter-append (awaits system g) (remove s.jobs own.i) (as_waiting own.x ∷ []) ∙ ap (λ xs. xs ++ filter (awaits system g) (as_waiting own.x ∷ [])) (kept_remove (awaits system g) s.jobs own.i own.x own.at idle))
    ∙ by_resource (h == g) refl locks))
  where
    by_resource : (b : Bool) → (h == g) ≡ b → locks_next h (next_unit system step.own.x) ≡ true → map (λ w. w.job) (filter (awaits system g) s.jobs ++ filter (awaits system g) (as_waiting step.own.x ∷ [])) ++ rest ≡ waiting system g s.jobs ++ cons_option (cond b (Some j) None) rest
    by_resource true same locks =
        let passes : awaits system g (as_waiting step.own.x) ≡ true = subst (λ n. locks_next n (next_unit system step.own.x) ≡ true) (eqb-true h g same) locks in
        ap (λ b. map (λ w. w.job) (filter (awaits system g) s.jobs ++ cond b (as_waiting step.own.x ∷ []) []) ++ rest) passes
        ∙ (ap (λ xs. xs ++ rest) (map-append (λ w. w.job) (filter (awaits system g) s.jobs) (as_waiting step.own.x ∷ []))
        ∙ (ap (λ n. (waiting system g s.jobs ++ n ∷ []) ++ rest) step.own.name
        ∙ append_assoc (waiting system g s.jobs) (j ∷ []) rest))
    by_resource false other locks =
        let fails : awaits system g (as_waiting step.own.x) ≡ false = one_lock (next_unit system step.own.x) h g locks other in
        ap (λ b. map (λ w. w.job) (filter (awaits system g) s.jobs ++ cond b (as_waiting step.own.x ∷ []) []) ++ rest) fails
        ∙ ap (λ xs. map (λ w. w.job) xs ++ rest) (append-nil (filter (awaits system g) s.jobs))

-- an acquisition takes the first
acquired : (system : PlanModel) (s : LogState) (c : ℕ) (j : JobId) (h g : ℕ) (step : IsStep system s c Acquire j h) (rest : List JobId)
    → waiting system g s.jobs ++ rest ≡ cons_option (cond (h == g) (Some j) None) (waiting system g (changed_at (place_of s.jobs j) as_stepped s.jobs) ++ rest)
acquired system s c j h g step rest = by_resource (h == g) refl where
  by_resource : (b : Bool) → (h == g) ≡ b → waiting system g s.jobs ++ rest ≡ cons_option (cond b (Some j) None) (waiting system g (changed_at (place_of s.jobs j) as_stepped s.jobs) ++ rest)
  by_resource true same =
      let e : h ≡ g = eqb-true h g same in
      let own = step.own in
      let passes : awaits system g own.x ≡ true = subst (λ n. awaits system n own.x ≡ true) e step.next in
      let first : is_job (option_map (λ z. z.job) (find (awaits system g) s.jobs)) j ≡ true = subst (λ n. is_job (option_map (λ z. z.job) (find (awaits system n) s.jobs)) j ≡ true) e (right_true _ _ step.outcome) in
      ap (λ xs. xs ++ rest) (taken (awaits system g) j s.jobs own.i own.x (as_stepped own.x) own.first own.at own.name passes refl first ∙ ap (λ xs. j ∷ waiting system g xs) (sym (changed_own system s c j own as_stepped)))
  by_resource false other =
      ap (λ xs. xs ++ rest) (sym (step_quiet system s c j g step.own (passes_not (step.own.x.waits) (one_lock (next_unit system step.own.x) h g (right_true step.own.x.waits _ step.next) other))))
    where
      passes_not : (a : Bool) → locks_next g (next_unit system step.own.x) ≡ false → (a && locks_next g (next_unit system step.own.x)) ≡ false
      passes_not true n = n
      passes_not false n = refl

action_turn : (system : PlanModel) (tolerances : Tolerances) (s : LogState) (e : Event) (a : Action) (g : ℕ) (rest : List JobId) → action_finding system tolerances s e a ≡ None
    → waiting system g s.jobs ++ cons_option (job_by is_request g a) rest ≡ cons_option (job_by is_acquire g a) (waiting system g (jobs_with a s.jobs) ++ rest)
action_turn system tolerances s e (Release j deadline) g rest h = ap (λ xs. map (λ w. w.job) xs ++ rest) (sym (filter-append (awaits system g) s.jobs (released j deadline ∷ []) ∙ append-nil (filter (awaits system g) s.jobs)))
action_turn system tolerances s e (Switch None) g rest h = refl
action_turn system tolerances s e (Switch (Some j)) g rest h =
    let own = (legal_switch system s e.core.0 j h).0 in
    ap (λ xs. xs ++ rest) (sym (ap (waiting system g) (changed_own system s e.core.0 j own as_started) ∙ kept_set (awaits system g) s.jobs own.i own.x (as_started own.x) own.at refl refl))
action_turn system tolerances s e (Step Lock j r) g rest h = let step = legal_step system tolerances s e Lock j r.0 h in ap (λ xs. xs ++ rest) (sym (plain_step system s e.core.0 Lock j r.0 g _ step step.next))
action_turn system tolerances s e (Step Unlock j r) g rest h = let step = legal_step system tolerances s e Unlock j r.0 h in ap (λ xs. xs ++ rest) (sym (plain_step system s e.core.0 Unlock j r.0 g _ step step.next))
action_turn system tolerances s e (Step Request j r) g rest h = requested system s e.core.0 j r.0 g (legal_step system tolerances s e Request j r.0 h) rest
action_turn system tolerances s e (Step Acquire j r) g rest h = acquired system s e.core.0 j r.0 g (legal_step system tolerances s e Acquire j r.0 h) rest
action_turn system tolerances s e (Step Poll j r) g rest h = refl
action_turn system tolerances s e (Step Freed j r) g rest h = let step = legal_step system tolerances s e Freed j r.0 h in ap (λ xs. xs ++ rest) (sym (plain_step system s e.core.0 Freed j r.0 g _ step step.next))
action_turn system tolerances s e (End j) g rest h =
    let ended = legal_end system s e.core.0 j h in
    let idle = not_awaits system g ended.0.x (not_true _ (left_true _ _ ended.1)) in
    ap (λ xs. map (λ w. w.job) xs ++ rest) (sym (ap (filter (awaits system g)) (without_own system s e.core.0 j ended.0) ∙ kept_remove (awaits system g) s.jobs ended.0.i ended.0.x ended.0.at idle))
action_turn system tolerances s e Boot g rest h = refl
action_turn system tolerances s e Stop g rest h = refl
action_turn system tolerances s e Lost g rest h = refl

-- ---- all events
cons_append : (o : Option JobId) (xs ys : List JobId) → cons_option o (xs ++ ys) ≡ cons_option o xs ++ ys
cons_append None xs ys = refl
cons_append (Some j) xs ys = refl

-- those that wait, and then those that request, are those that acquire, then those that still wait
pub in_turn : (system : PlanModel) (tolerances : Tolerances) (g : ℕ) (s : LogState) (events : List Event) → finding_from system tolerances s events ≡ None → (state_from system s events).stopped ≡ false
    → waiting system g s.jobs ++ jobs_by is_request g events ≡ jobs_by is_acquire g events ++ waiting system g (state_from system s events).jobs
in_turn system tolerances g s [] h runs = append-nil (waiting system g s.jobs)
in_turn system tolerances g s (e ∷ events) h runs =
    let parts = or_parts (finding_of system tolerances s e) _ h in
    let running = ran_before system s (e ∷ events) runs in
    let event = accepted system tolerances s e running parts.0 in
    let same = running_with system s e running in
    let after = subst (λ t. waiting system g t.jobs ++ jobs_by is_request g events ≡ jobs_by is_acquire g events ++ waiting system g (state_from system t events).jobs) same (in_turn system tolerances g (state_with system s e) events parts.1 runs) in
    action_turn system tolerances s e e.action g (jobs_by is_request g events) event.action
    ∙ (ap (cons_option (job_by is_acquire g e.action)) after
    ∙ (cons_append (job_by is_acquire g e.action) (jobs_by is_acquire g events) _
    ∙ ap (λ t. cons_option (job_by is_acquire g e.action) (jobs_by is_acquire g events) ++ waiting system g (state_from system t events).jobs) (sym same)))
