-- A turn of a machine: its row is the next one of whatever log the machine stands after.
use Rattle.std.proofs.Common.{◌≡◌, ◌||◌, ◌∷◌, ◌++◌, ◌∙◌}
use Rattle.msrp_plan.proofs.Common.{ℕ, Bool, true, false, cond, List, [], Option, Some, None, refl, ap, sym, subst, length, map, inl, inr, list_any, AllByRecursion, Contains, ForSome, or-false, cases_Bool, fold_push, jobs_on, same_job, is_job, choice, does_next, is_idle, phase_with, phase_after, IsCoreTurn, is_on_core, same_choice, JobState, state_after, state_with, same_self, any_in}
use Rattle.msrp_core.proofs.Common.{ActsFor, AreActive, AreJobs, AreToldBy, CoreId, Free, Idle, IsRunning, IsSamePlace, IsTurnOf, JobId, Jobs, Kind, Phase, Row, does_unit_after, is_waiting_phase, moved_by, started_with, state_in, state_of}
use Rattle.msrp_plan.proofs.Jobs.States.{state_push}
use Rattle.msrp_core.proofs.Choices.{at_in}
use Rattle.msrp_core.proofs.Running.{running_done, running_known, running_queued}

-- ---- what a turn leaves
pub fits_after : (mid new : Jobs) (chosen : Option JobId) (tick : ℕ) (r : Row) → AreJobs mid → ActsFor mid new chosen tick r → AreJobs new
fits_after mid new None tick r fit acts =
    subst AreJobs (sym acts.same)
    (record {
      accepted = fit.accepted;
      levels = fit.levels;
      ready_plan = fit.ready_plan;
      ready_core = fit.ready_core;
      stack_plan = fit.stack_plan;
      stack_core = fit.stack_core;
      size = fit.size;
      room = fit.room;
      are = subst (AreActive mid.plan.now mid.core.0 mid.ready.taken mid.phase) (sym acts.active) fit.are;
      current = record { rising = fit.current.rising; units = fit.current.units };
    })
fits_after mid new (Some job) tick r fit acts = acts.jobs_fit

pub ready_after : (mid new : Jobs) (chosen : Option JobId) (tick : ℕ) (r : Row) → ActsFor mid new chosen tick r → new.ready ≡ mid.ready
ready_after mid new None tick r acts = ap (λ (j : Jobs). j.ready) acts.same
ready_after mid new (Some job) tick r acts = acts.ready

pub plan_after : (mid new : Jobs) (chosen : Option JobId) (tick : ℕ) (r : Row) → ActsFor mid new chosen tick r → new.plan.now ≡ mid.plan.now
plan_after mid new None tick r acts = ap (λ (j : Jobs). j.plan.now) acts.same
plan_after mid new (Some job) tick r acts = acts.plan

pub core_after : (mid new : Jobs) (chosen : Option JobId) (tick : ℕ) (r : Row) → ActsFor mid new chosen tick r → new.core ≡ mid.core
core_after mid new None tick r acts = ap (λ (j : Jobs). j.core) acts.same
core_after mid new (Some job) tick r acts = acts.core

-- ---- the row of a turn
pub acts_job : (mid new : Jobs) (chosen : Option JobId) (tick : ℕ) (r : Row) → ActsFor mid new chosen tick r → r.job ≡ chosen
acts_job mid new None tick r acts = acts.row_job
acts_job mid new (Some job) tick r acts = acts.row_job

pub acts_tick : (mid new : Jobs) (chosen : Option JobId) (tick : ℕ) (r : Row) → ActsFor mid new chosen tick r → r.tick ≡ tick
acts_tick mid new None tick r acts = acts.row_tick
acts_tick mid new (Some job) tick r acts = acts.row_tick

pub acts_core : (mid new : Jobs) (chosen : Option JobId) (tick : ℕ) (r : Row) → ActsFor mid new chosen tick r → r.core ≡ mid.core
acts_core mid new None tick r acts = acts.row_core
acts_core mid new (Some job) tick r acts = acts.row_core

row_tick : (jobs : Jobs) (chosen : Option JobId) (tick : ℕ) (r : Row) → IsTurnOf jobs chosen tick r → r.tick ≡ tick
row_tick jobs None tick r turn = turn.row_tick
row_tick jobs (Some job) tick r turn = turn.row_tick

row_core : (jobs : Jobs) (chosen : Option JobId) (tick : ℕ) (r : Row) → IsTurnOf jobs chosen tick r → r.core ≡ jobs.core
row_core jobs None tick r turn = turn.row_core
row_core jobs (Some job) tick r turn = turn.row_core

row_job : (jobs : Jobs) (chosen : Option JobId) (tick : ℕ) (r : Row) → IsTurnOf jobs chosen tick r → r.job ≡ chosen
row_job jobs None tick r turn = turn.row_job
row_job jobs (Some job) tick r turn = turn.row_job

-- an idle row leaves the phase
idle_phase : (p : Phase) (r : Row) → is_idle r.kind ≡ true → r.res ≡ None → phase_with p r.kind r.res ≡ p
idle_phase p r k e = by_kind r.kind k
  where
    by_kind : (k : Kind) → is_idle k ≡ true → phase_with p k r.res ≡ p
    by_kind Idle e = refl
    by_kind _ e = absurd (cc)

pub phase_after_turn : (mid new : Jobs) (chosen : Option JobId) (tick : ℕ) (r : Row) → ActsFor mid new chosen tick r → new.phase ≡ phase_with mid.phase r.kind r.res
phase_after_turn mid new None tick r acts = ap (λ (j : Jobs). j.phase) acts.same ∙ sym (idle_phase mid.phase r (ap is_idle acts.kind) acts.row_res)
phase_after_turn mid new (Some job) tick r acts = acts.phase

-- ---- the states of the jobs
-- equal images are equal at each element
pub told_from : (f g : JobId → JobState) (xs : List JobId) → map f xs ≡ map g xs → AllByRecursion (λ j. g j ≡ f j) xs
told_from f g [] e = tt
told_from f g (x ∷ xs) e = (let a : g x ≡ f x = cc in a, told_from f g xs (let b : map f xs ≡ map g xs = cc in b))

pub map_same : (f g : JobId → JobState) (xs : List JobId) → AllByRecursion (λ j. f j ≡ g j) xs → map f xs ≡ map g xs
map_same f g [] all = refl
map_same f g (x ∷ xs) all = let h = all.0 in let t = map_same f g xs all.1 in cc

-- a row moves its job, started or not, and no other
moved_started : (r : Row) (chosen : Option JobId) (s : JobState) → r.job ≡ chosen → state_with r (started_with chosen s) ≡ state_with r s
moved_started r chosen s e = elim (cases_Bool (is_job r.job s.job)) [
  | inl mine ↦ ap (λ b. cond b (moved_by r (started_with chosen s)) (started_with chosen s)) mine ∙ sym (ap (λ b. cond b (moved_by r s) s) mine)
  | inr other ↦
      let b : is_job chosen s.job ≡ false = ap (λ o. is_job o s.job) (sym e) ∙ other in
      let t : (s.started || is_job chosen s.job) ≡ s.started = ap (λ b. s.started || b) b ∙ or-false s.started in
      let mk : Bool → JobState = λ b. record s { started = b } in
      ap (λ b. cond b (moved_by r (started_with chosen s)) (started_with chosen s)) other ∙ (ap mk t ∙ sym (ap (λ b. cond b (moved_by r s) s) other))
]

-- after the turn each job is as far as the log with the row says
turn_states : (mid new : Jobs) (chosen : Option JobId) (tick : ℕ) (r : Row) (j : JobId) → ActsFor mid new chosen tick r → state_of new j ≡ state_with r (state_of mid j)
turn_states mid new None tick r j acts =
    ap (λ (x : Jobs). state_of x j) acts.same
    ∙ (ap (λ g. state_in mid.plan.now mid.ready.taken mid.phase g j) acts.active ∙ sym (ap (λ o. cond (is_job o j) (moved_by r (state_of mid j)) (state_of mid j)) acts.row_job))
turn_states mid new (Some job) tick r j acts = acts.states j

module _ (old mid new : Jobs) (chosen : Option JobId) (tick : ℕ) (r : Row) (log : List Row) (fit : AreJobs mid) (same : IsSamePlace old mid) (states : (j : JobId) → state_of mid j ≡ started_with chosen (state_of old j)) (acts : ActsFor mid new chosen tick r) (told : AreToldBy old log) (at : tick ≡ length log) where
  plan_is : mid.plan.now ≡ old.plan.now
  plan_is = ap (λ p. p.now) same.plan

  later_state : (j : JobId) → state_after log j ≡ state_of old j → state_of new j ≡ state_after (log ++ r ∷ []) j
  later_state j e =
      turn_states mid new chosen tick r j acts
      ∙ (ap (state_with r) (states j)
      ∙ (moved_started r chosen (state_of old j) (acts_job mid new chosen tick r acts)
      ∙ (ap (state_with r) (sym e) ∙ sym (state_push log r j))))

  pub turn_told : map (state_of new) (jobs_on new.plan.now new.core.0) ≡ map (state_after (log ++ r ∷ [])) (jobs_on new.plan.now new.core.0)
  turn_told =
      let p = plan_after mid new chosen tick r acts ∙ plan_is in
      let c : new.core.0 ≡ old.core.0 = ap (λ (c : CoreId). c.0) (core_after mid new chosen tick r acts ∙ same.core) in
      subst (λ q. map (state_of new) (jobs_on q new.core.0) ≡ map (state_after (log ++ r ∷ [])) (jobs_on q new.core.0)) (sym p)
      (subst (λ k. map (state_of new) (jobs_on old.plan.now k) ≡ map (state_after (log ++ r ∷ [])) (jobs_on old.plan.now k)) (sym c)
      (map_same (state_of new) (state_after (log ++ r ∷ [])) (jobs_on old.plan.now old.core.0) (all_later (jobs_on old.plan.now old.core.0) told)))
    where
      all_later : (js : List JobId) → AllByRecursion (λ j. state_after log j ≡ state_of old j) js → AllByRecursion (λ j. state_of new j ≡ state_after (log ++ r ∷ []) j) js
      all_later [] all = tt
      all_later (j ∷ js) all = (later_state j all.0, all_later js all.1)

  pub turn_phase : old.phase ≡ phase_after log → new.phase ≡ phase_after (log ++ r ∷ [])
  turn_phase e = phase_after_turn mid new chosen tick r acts ∙ (ap (λ p. phase_with p r.kind r.res) (same.phase ∙ e) ∙ sym (fold_push (λ (p : Phase) (w : Row). phase_with p w.kind w.res) Free log r))

-- ---- the row
-- what acts, once chosen and perhaps started, does what the jobs as they were before have next
module _ (old mid : Jobs) (fit : AreJobs mid) (same : IsSamePlace old mid) where
  plan_before : mid.plan.now ≡ old.plan.now
  plan_before = ap (λ p. p.now) same.plan

  pub chosen_known : (chosen : Option JobId) → ForSome chosen (IsRunning mid) → ForSome chosen (Contains (jobs_on old.plan.now old.core.0))
  chosen_known chosen runs x e =
      subst (λ p. Contains (jobs_on p old.core.0) x) plan_before (subst (λ (c : CoreId). Contains (jobs_on mid.plan.now c.0) x) same.core (running_known mid x fit (runs x e)).0)

  pub turn_of : (new : Jobs) (chosen : Option JobId) (tick : ℕ) (r : Row) → ForSome chosen (IsRunning mid) → ((j : JobId) → state_of mid j ≡ started_with chosen (state_of old j)) → ActsFor mid new chosen tick r → IsTurnOf old chosen tick r
  turn_of new None tick r runs states acts = record { row_tick = acts.row_tick; row_core = acts.row_core ∙ same.core; row_job = acts.row_job; kind = acts.kind }
  turn_of new (Some job) tick r runs states acts =
      let run = runs job refl in
      record {
        row_tick = acts.row_tick;
        row_core = acts.row_core ∙ same.core;
        row_job = acts.row_job;
        action =
            ap (λ b. does_unit_after old.plan.now job b (state_of old job).done r) (sym (ap (λ (s : JobState). s.queued) (states job)) ∙ running_queued mid job run)
            ∙ (ap (λ n. does_unit_after old.plan.now job (is_waiting_phase mid.phase) n r) (sym (ap (λ (s : JobState). s.done) (states job)) ∙ running_done mid job fit run)
            ∙ (ap (λ p. does_unit_after p job (is_waiting_phase mid.phase) run.newest.done r) (sym plan_before) ∙ acts.action run.newest run.below run.active));
      }

-- the row of whoever is chosen is the core's next
module _ (jobs : Jobs) (chosen : Option JobId) (tick : ℕ) (r : Row) (log : List Row) (known : ForSome chosen (Contains (jobs_on jobs.plan.now jobs.core.0))) (turn : IsTurnOf jobs chosen tick r) (told : AreToldBy jobs log) where
  core_is : r.core.0 ≡ jobs.core.0
  core_is = ap (λ (c : CoreId). c.0) (row_core jobs chosen tick r turn)

  job_is : r.job ≡ chosen
  job_is = row_job jobs chosen tick r turn

  own_by : (o : Option JobId) → chosen ≡ o → is_on_core jobs.plan.now r.core.0 r.job ≡ true
  own_by None e = ap (is_on_core jobs.plan.now r.core.0) (job_is ∙ e)
  own_by (Some x) e = ap (is_on_core jobs.plan.now r.core.0) (job_is ∙ e) ∙ (ap (λ c. list_any (same_job x) (jobs_on jobs.plan.now c)) core_is ∙ any_in (same_job x) (jobs_on jobs.plan.now jobs.core.0) x (known x e) (same_self x))

  next_by_state : (o : Option JobId) → chosen ≡ o → does_next jobs.plan.now log r.job r ≡ true
  next_by_state None e = ap (λ a. does_next jobs.plan.now log a r) (job_is ∙ e) ∙ ap is_idle (subst (λ o. IsTurnOf jobs o tick r) e turn).kind
  next_by_state (Some x) e =
      let tell : state_after log x ≡ state_of jobs x = at_in (λ j. state_after log j ≡ state_of jobs j) (jobs_on jobs.plan.now jobs.core.0) x told (known x e) in
      ap (λ a. does_next jobs.plan.now log a r) (job_is ∙ e) ∙ (ap (λ (s : JobState). does_unit_after jobs.plan.now x s.queued s.done r) tell ∙ (subst (λ o. IsTurnOf jobs o tick r) e turn).action)

  same_itself : (o : Option JobId) → same_choice o o ≡ true
  same_itself None = refl
  same_itself (Some x) = same_self x

  pub turn_row : tick ≡ length log → chosen ≡ choice jobs.plan.now jobs.core.0 tick log → IsCoreTurn jobs.plan.now jobs.core.0 log r
  turn_row at is = record {
    tick = row_tick jobs chosen tick r turn ∙ at;
    core = core_is;
    own = own_by chosen refl;
    chosen =
        ap (λ c. same_choice r.job (choice jobs.plan.now c r.tick log)) core_is
        ∙ (ap (λ t. same_choice r.job (choice jobs.plan.now jobs.core.0 t log)) (row_tick jobs chosen tick r turn)
        ∙ (ap (same_choice r.job) (sym is) ∙ (ap (λ o. same_choice o chosen) job_is ∙ same_itself chosen)));
    action = next_by_state chosen refl;
  }
