-- An action of the running job, over what is stored of the jobs of a core.
use Rattle.std.proofs.Common.{◌≡◌, ◌+◌, ◌<◌, ◌≤◌, ◌∷◌, ◌∙◌}
use Rattle.msrp_plan.proofs.Common.{ℕ, Bool, true, false, nat_eq, List, [], Option, Some, refl, ap, sym, subst, arith, length, slice_get, vec_capacity, list_any, AllByRecursion, Contains, true≢false, and_from, false_from_ne_true, ForSome, PlanModel, units, jobs_on, is_waiting, IsPlan, is_global, same_res, res_of_unit, is_global_unit, allows, does_unit, without_first, phase_with, state_with}
use Rattle.msrp_core.proofs.Common.{ActiveJob, Acts, AreActive, AreJobs, AreOfCore, CanAct, CoreId, Free, HasRoom, HoldSo, Holding, IsCurrent, IsInnermost, IsNextUnit, IsRunning, JobId, Jobs, Kind, Op, Phase, Queued, ReadyModel, ResId, Row, StackModel, StartedJob, active_in, active_of, advanced, does_unit_after, eq-eqb, is_holding_phase, is_waiting_phase, newest, rising_of, state_in, state_of, units_done, with_held, without_held}
use Rattle.msrp_ready.specs.Ready.{head}
use Rattle.msrp_plan.specs.declared.units.Op.TheVariants.{Run as RunUnit, Lock as LockUnit, Unlock as UnlockUnit}
use Rattle.msrp_core.proofs.Running.{of_core, running_done, running_queued}
use Rattle.msrp_core.proofs.Steps.{CanUnlock, IsStep, advance_active, advance_states, grant_step, last_free, lock_room, lock_step, release_phase, release_step, request_room, take_step, unlock_room, unlock_step, work_step}

-- ---- the newest with one resource more, and without the innermost
abbrev pub kept_with : ℕ → List ActiveJob → List ActiveJob
kept_with g [] = []
kept_with g (s ∷ below) = record s { held = g ∷ s.held } ∷ below

abbrev pub kept_less : List ActiveJob → List ActiveJob
kept_less [] = []
kept_less (s ∷ below) = record s { held = without_first s.held } ∷ below

pub active_with : (started : List StartedJob) (done : List ℕ) (g : ℕ) → active_of (with_held started g) done ≡ kept_with g (active_of started done)
active_with [] done g = refl
active_with (s ∷ started) [] g = refl
active_with (s ∷ started) (n ∷ done) g = refl

pub active_less : (started : List StartedJob) (done : List ℕ) → active_of (without_held started) done ≡ kept_less (active_of started done)
active_less [] done = refl
active_less (s ∷ started) [] = refl
active_less (s ∷ started) (n ∷ done) = refl

-- by that it has the same jobs
abbrev AreAll : (JobId → Type 0) → List StartedJob → Type 0
AreAll P started = AllByRecursion (λ (s : StartedJob). P s.job) started

pub newest_with : (started : List StartedJob) (g : ℕ) → newest (with_held started g) ≡ newest started
newest_with [] g = refl
newest_with (s ∷ started) g = refl

pub newest_less : (started : List StartedJob) → newest (without_held started) ≡ newest started
newest_less [] = refl
newest_less (s ∷ started) = refl

all_with : (P : JobId → Type 0) (started : List StartedJob) (g : ℕ) → AreAll P started → AreAll P (with_held started g)
all_with P [] g all = all
all_with P (s ∷ started) g all = all

all_less : (P : JobId → Type 0) (started : List StartedJob) → AreAll P started → AreAll P (without_held started)
all_less P [] all = all
all_less P (s ∷ started) all = all

-- what the stack wants of its top
pub room_of : (started : List StartedJob) (done : List ℕ) (s : ActiveJob) (below : List ActiveJob) (g : ℕ) → active_of started done ≡ s ∷ below → length s.held < 8 → list_any (nat_eq g) s.held ≡ false → HasRoom started 8 g
room_of [] done s below g e few fresh = absurd (cc)
room_of (x ∷ started) [] s below g e few fresh = absurd (cc)
room_of (x ∷ started) (n ∷ done) s below g e few fresh = let h : x.held ≡ s.held = cc in (let l = ap length h in omega (arith, l, few), ap (list_any (nat_eq g)) h ∙ fresh)

pub innermost_of : (started : List StartedJob) (done : List ℕ) (s : ActiveJob) (below : List ActiveJob) (g : ℕ) (rest : List ℕ) → active_of started done ≡ s ∷ below → s.held ≡ g ∷ rest → IsInnermost started g
innermost_of [] done s below g rest e held = absurd (cc)
innermost_of (x ∷ started) [] s below g rest e held = absurd (cc)
innermost_of (x ∷ started) (n ∷ done) s below g rest e held = let h : x.held ≡ s.held = cc in (rest, h ∙ held)

-- ---- the running job before its action
module _ (jobs : Jobs) (job : JobId) (op : Op) (can : CanAct jobs job op) where
  pub unit_at : slice_get (units jobs.plan.now can.running.newest.job) can.running.newest.done ≡ Some op
  unit_at = ap (λ j. slice_get (units jobs.plan.now j) can.running.newest.done) can.running.same ∙ can.unit

  pub holds_at : HoldSo jobs.plan.now jobs.phase (can.running.newest ∷ can.running.below)
  holds_at = subst (HoldSo jobs.plan.now jobs.phase) can.running.active can.jobs_fit.are.holds

  pub active_at : AreActive jobs.plan.now jobs.core.0 jobs.ready.taken jobs.phase (can.running.newest ∷ can.running.below)
  active_at = subst (AreActive jobs.plan.now jobs.core.0 jobs.ready.taken jobs.phase) can.running.active can.jobs_fit.are

  -- where the stack's newest holds one resource more, and where it holds all but the innermost
  pub active_locked : (m : StackModel) (g : ℕ) → m ≡ record jobs.stack { started = with_held jobs.stack.started g } → active_of m.started (units_done jobs) ≡ record can.running.newest { held = g ∷ can.running.newest.held } ∷ can.running.below
  active_locked m g e = ap (λ (n : StackModel). active_of n.started (units_done jobs)) e ∙ (active_with jobs.stack.started (units_done jobs) g ∙ ap (kept_with g) can.running.active)

  pub active_unlocked : (m : StackModel) (g : ℕ) (rest : List ℕ) → m ≡ record jobs.stack { started = without_held jobs.stack.started } → can.running.newest.held ≡ g ∷ rest → active_of m.started (units_done jobs) ≡ record can.running.newest { held = rest } ∷ can.running.below
  active_unlocked m g rest e held = ap (λ (n : StackModel). active_of n.started (units_done jobs)) e ∙ (active_less jobs.stack.started (units_done jobs) ∙ (ap kept_less can.running.active ∙ ap (λ hs. record can.running.newest { held = without_first hs } ∷ can.running.below) held))

  -- the newest, with what it holds now, is still the running job
  pub still_running : (mid : Jobs) (held : List ℕ) → active_in mid ≡ record can.running.newest { held = held } ∷ can.running.below → IsRunning mid job
  still_running mid held e = record { newest = record can.running.newest { held = held }; below = can.running.below; active = e; same = can.running.same }

-- ---- the running job in its action
-- a unit of the running job changes the stack to m and the phase to q, with which it holds so much
pub record IsActing (jobs : Jobs) (job : JobId) (op : Op) (can : CanAct jobs job op) (q : Phase) (m : StackModel) (held : List ℕ) : Type 0 where
  pub step : IsStep jobs.plan.now can.running.newest can.running.below q held
  pub active : active_of m.started (units_done jobs) ≡ record can.running.newest { held = held } ∷ can.running.below
  pub same_plan : m.plan ≡ jobs.stack.plan
  pub same_core : m.core ≡ jobs.stack.core
  pub same_newest : newest m.started ≡ newest jobs.stack.started
  pub known : AllByRecursion (λ (s : StartedJob). Contains (jobs_on jobs.plan.now jobs.core.0) s.job) m.started

-- who rises is the same, and all are jobs of the core
module _ (jobs : Jobs) (job : JobId) (op : Op) (can : CanAct jobs job op) (q : Phase) (m : StackModel) (held : List ℕ) (acting : IsActing jobs job op can q m held) where
  pub still_current : IsCurrent (record jobs { phase = q; stack = m })
  still_current = record {
    rising = can.jobs_fit.current.rising ∙ ap (rising_of jobs.plan.now (head jobs.ready)) (sym acting.same_newest);
    units = subst (λ o. ForSome o (λ j. jobs.units ≡ units jobs.plan.now j)) (sym acting.same_newest) can.jobs_fit.current.units;
  }

  pub still_of_core : AreOfCore (record jobs { phase = q; stack = m })
  still_of_core = record { first = (of_core jobs can.jobs_fit).first; started = acting.known }

-- its last unit leaves it with nothing
pub last_by : (jobs : Jobs) (job : JobId) (op : Op) (can : CanAct jobs job op) (q : Phase) (m : StackModel) (held : List ℕ) → IsActing jobs job op can q m held
    → (s : ActiveJob) (below : List ActiveJob) → active_of m.started (units_done jobs) ≡ s ∷ below → s.done + 1 ≡ length (units jobs.plan.now job) → s.held ≡ []
last_by jobs job op can q m held acting s below k last =
    let both : record can.running.newest { held = held } ∷ can.running.below ≡ s ∷ below = sym acting.active ∙ k in
    let h : s.held ≡ held = cc in
    let d : can.running.newest.done ≡ s.done = cc in
    h ∙ last_free jobs.plan.now can.jobs_fit.accepted jobs.core.0 jobs.ready.taken can.running.newest can.running.below jobs.phase (active_at jobs job op can) q held acting.step (ap (λ n. n + 1) d ∙ (last ∙ sym (ap (λ j. length (units jobs.plan.now j)) can.running.same)))

-- a unit of work, a lock and an unlock of a local resource
pub working : (jobs : Jobs) (job : JobId) (can : CanAct jobs job RunUnit) → IsActing jobs job RunUnit can jobs.phase jobs.stack can.running.newest.held
working jobs job can = record {
  step = work_step jobs.plan.now can.jobs_fit.accepted can.running.newest can.running.below jobs.phase (holds_at jobs job RunUnit can) (unit_at jobs job RunUnit can);
  active = can.running.active;
  same_plan = refl;
  same_core = refl;
  same_newest = refl;
  known = (of_core jobs can.jobs_fit).started;
}

-- the stack's newest holds one resource more
locked_by : (jobs : Jobs) (job : JobId) (res : ResId) (can : CanAct jobs job (LockUnit res)) (q : Phase) (m : StackModel) → m ≡ record jobs.stack { started = with_held jobs.stack.started res.0 }
    → IsStep jobs.plan.now can.running.newest can.running.below q (res.0 ∷ can.running.newest.held) → IsActing jobs job (LockUnit res) can q m (res.0 ∷ can.running.newest.held)
locked_by jobs job res can q m e step = record {
  step = step;
  active = active_locked jobs job (LockUnit res) can m res.0 e;
  same_plan = ap (λ (n : StackModel). n.plan) e;
  same_core = ap (λ (n : StackModel). n.core) e;
  same_newest = ap (λ (n : StackModel). newest n.started) e ∙ newest_with jobs.stack.started res.0;
  known = subst (λ (n : StackModel). AreAll (Contains (jobs_on jobs.plan.now jobs.core.0)) n.started) (sym e) (all_with (Contains (jobs_on jobs.plan.now jobs.core.0)) jobs.stack.started res.0 (of_core jobs can.jobs_fit).started);
}

module _ (jobs : Jobs) (job : JobId) (res : ResId) (can : CanAct jobs job (LockUnit res)) (m : StackModel) (locks : m ≡ record jobs.stack { started = with_held jobs.stack.started res.0 }) where
  pub locking : is_global jobs.plan.now res.0 ≡ false → IsActing jobs job (LockUnit res) can jobs.phase m (res.0 ∷ can.running.newest.held)
  locking local = locked_by jobs job res can jobs.phase m locks (lock_step jobs.plan.now can.jobs_fit.accepted can.running.newest can.running.below jobs.phase res (holds_at jobs job (LockUnit res) can) (unit_at jobs job (LockUnit res) can) local)

  pub taking : jobs.phase ≡ Free → is_global jobs.plan.now res.0 ≡ true → IsActing jobs job (LockUnit res) can (Holding res) m (res.0 ∷ can.running.newest.held)
  taking free global =
      locked_by jobs job res can (Holding res) m locks
      (take_step jobs.plan.now can.jobs_fit.accepted can.running.newest can.running.below res (subst (λ p. HoldSo jobs.plan.now p (can.running.newest ∷ can.running.below)) free (holds_at jobs job (LockUnit res) can)) (unit_at jobs job (LockUnit res) can) global)

-- a grant: the job held the resource, for the ceiling, since its request
pub granting : (jobs : Jobs) (job : JobId) (res : ResId) (can : CanAct jobs job (LockUnit res)) → jobs.phase ≡ Queued res → IsActing jobs job (LockUnit res) can (Holding res) jobs.stack can.running.newest.held
granting jobs job res can awaits = record {
  step = grant_step jobs.plan.now can.jobs_fit.accepted can.running.newest can.running.below res (subst (λ p. HoldSo jobs.plan.now p (can.running.newest ∷ can.running.below)) awaits (holds_at jobs job (LockUnit res) can));
  active = can.running.active;
  same_plan = refl;
  same_core = refl;
  same_newest = refl;
  known = (of_core jobs can.jobs_fit).started;
}

-- the stack has room for a lock, and for a request
pub lock_fits : (jobs : Jobs) (job : JobId) (res : ResId) (can : CanAct jobs job (LockUnit res)) → is_global jobs.plan.now res.0 ≡ false → HasRoom jobs.stack.started 8 res.0
lock_fits jobs job res can local =
    let room = lock_room jobs.plan.now can.jobs_fit.accepted can.running.newest can.running.below jobs.phase res (holds_at jobs job (LockUnit res) can) (unit_at jobs job (LockUnit res) can) local in
    room_of jobs.stack.started (units_done jobs) can.running.newest can.running.below res.0 can.running.active room.few room.fresh

pub request_fits : (jobs : Jobs) (job : JobId) (res : ResId) (can : CanAct jobs job (LockUnit res)) → jobs.phase ≡ Free → HasRoom jobs.stack.started 8 res.0
request_fits jobs job res can free =
    let room = request_room jobs.plan.now can.jobs_fit.accepted can.running.newest can.running.below res (subst (λ p. HoldSo jobs.plan.now p (can.running.newest ∷ can.running.below)) free (holds_at jobs job (LockUnit res) can)) (unit_at jobs job (LockUnit res) can) in
    room_of jobs.stack.started (units_done jobs) can.running.newest can.running.below res.0 can.running.active room.few room.fresh

-- ---- an unlock
module _ (jobs : Jobs) (job : JobId) (res : ResId) (can : CanAct jobs job (UnlockUnit res)) where
  pub unlocks : CanUnlock jobs.plan.now can.jobs_fit.accepted can.running.newest can.running.below res
  unlocks = unlock_room jobs.plan.now can.jobs_fit.accepted can.running.newest can.running.below jobs.phase res (holds_at jobs job (UnlockUnit res) can) (unit_at jobs job (UnlockUnit res) can)

  pub is_innermost : IsInnermost jobs.stack.started res.0
  is_innermost = innermost_of jobs.stack.started (units_done jobs) can.running.newest can.running.below res.0 unlocks.rest can.running.active unlocks.held

  unlocked_by : (q : Phase) (m : StackModel) → m ≡ record jobs.stack { started = without_held jobs.stack.started } → IsStep jobs.plan.now can.running.newest can.running.below q unlocks.rest → IsActing jobs job (UnlockUnit res) can q m unlocks.rest
  unlocked_by q m e step = record {
    step = step;
    active = active_unlocked jobs job (UnlockUnit res) can m res.0 unlocks.rest e unlocks.held;
    same_plan = ap (λ (n : StackModel). n.plan) e;
    same_core = ap (λ (n : StackModel). n.core) e;
    same_newest = ap (λ (n : StackModel). newest n.started) e ∙ newest_less jobs.stack.started;
    known = subst (λ (n : StackModel). AreAll (Contains (jobs_on jobs.plan.now jobs.core.0)) n.started) (sym e) (all_less (Contains (jobs_on jobs.plan.now jobs.core.0)) jobs.stack.started (of_core jobs can.jobs_fit).started);
  }

  pub unlocking : (m : StackModel) → m ≡ record jobs.stack { started = without_held jobs.stack.started } → is_global jobs.plan.now res.0 ≡ false → IsActing jobs job (UnlockUnit res) can jobs.phase m unlocks.rest
  unlocking m e local = unlocked_by jobs.phase m e (unlock_step jobs.plan.now can.jobs_fit.accepted can.running.newest can.running.below jobs.phase res unlocks (holds_at jobs job (UnlockUnit res) can) (unit_at jobs job (UnlockUnit res) can) local)

  -- of a global resource
  pub dropping : (m : StackModel) → m ≡ record jobs.stack { started = without_held jobs.stack.started } → is_global jobs.plan.now res.0 ≡ true → IsActing jobs job (UnlockUnit res) can Free m unlocks.rest
  dropping m e global = unlocked_by Free m e (release_step jobs.plan.now can.jobs_fit.accepted can.running.newest can.running.below jobs.phase res unlocks (holds_at jobs job (UnlockUnit res) can) (unit_at jobs job (UnlockUnit res) can) global)

-- the row does the unit
pub does_by : (plan : PlanModel) (queued : Bool) (r : Row) (op : Op) (k : Kind) (res : Option ResId) → r.res ≡ res → r.kind ≡ k → same_res res (res_of_unit op) ≡ true → allows (is_global_unit plan op) queued op k ≡ true → does_unit plan queued r (Some op) ≡ true
does_by plan queued r op k res er ek same may =
    and_from (same_res r.res (res_of_unit op)) (allows (is_global_unit plan op) queued op r.kind) (ap (λ o. same_res o (res_of_unit op)) er ∙ same) (ap (allows (is_global_unit plan op) queued op) ek ∙ may)

pub same_here : (g : ResId) → same_res (Some g) (Some g) ≡ true
same_here g = eq-eqb g.0 g.0 refl

-- ---- what the action leaves
-- the row of the action
pub record IsRow (r : Row) (tick : ℕ) (jobs : Jobs) (job : JobId) (k : Kind) (res : Option ResId) : Type 0 where
  pub tick_is : r.tick ≡ tick
  pub core_is : r.core ≡ jobs.core
  pub job_is : r.job ≡ Some job
  pub kind_is : r.kind ≡ k
  pub res_is : r.res ≡ res

-- the jobs after the action, with these active
pub record IsLeft (old new : Jobs) (q : Phase) (active : List ActiveJob) : Type 0 where
  pub plan_is : new.plan ≡ old.plan
  pub levels_is : new.levels ≡ old.levels
  pub core_is : new.core ≡ old.core
  pub phase_is : new.phase ≡ q
  pub ready_is : new.ready ≡ old.ready
  pub stack_plan : new.stack.plan ≡ old.stack.plan
  pub stack_core : new.stack.core ≡ old.stack.core
  pub size : length new.stack.started ≡ length new.below.items
  pub room : vec_capacity new.below ≡ vec_capacity old.below
  pub active_is : active_in new ≡ active
  pub current : IsCurrent new

-- as `advance` leaves them
pub left_by : (old new : Jobs) (q : Phase) (m : StackModel) (active : List ActiveJob) → m.plan ≡ old.stack.plan → m.core ≡ old.stack.core → new ≡ record old { phase = q; stack = new.stack; progress = new.progress; below = new.below; rising = new.rising; units = new.units }
    → new.stack.plan ≡ m.plan → new.stack.core ≡ m.core → length new.stack.started ≡ length new.below.items → vec_capacity new.below ≡ vec_capacity old.below → active_in new ≡ active → IsCurrent new → IsLeft old new q active
left_by old new q m active mp mc others np nc size room e current = record {
  plan_is = ap (λ (j : Jobs). j.plan) others;
  levels_is = ap (λ (j : Jobs). j.levels) others;
  core_is = ap (λ (j : Jobs). j.core) others;
  phase_is = ap (λ (j : Jobs). j.phase) others;
  ready_is = ap (λ (j : Jobs). j.ready) others;
  stack_plan = np ∙ mp;
  stack_core = nc ∙ mc;
  size = size;
  room = room;
  active_is = e;
  current = current;
}

-- such jobs fit together
left_fits : (old new : Jobs) (q : Phase) (active : List ActiveJob) → AreJobs old → AreActive old.plan.now old.core.0 old.ready.taken q active → IsLeft old new q active → AreJobs new
left_fits old new q active fit are l =
    let plan = ap (λ p. p.now) l.plan_is in
    record {
      accepted = subst IsPlan (sym plan) fit.accepted;
      levels = ap (λ p. p.now) l.levels_is ∙ (fit.levels ∙ sym plan);
      ready_plan = ap (λ m. m.plan) l.ready_is ∙ (fit.ready_plan ∙ sym plan);
      ready_core = ap (λ m. m.core) l.ready_is ∙ (fit.ready_core ∙ sym (ap (λ c. c.0) l.core_is));
      stack_plan = l.stack_plan ∙ (fit.stack_plan ∙ sym plan);
      stack_core = l.stack_core ∙ (fit.stack_core ∙ sym (ap (λ c. c.0) l.core_is));
      size = l.size;
      room = subst (λ p. length (jobs_on p new.core.0) ≤ vec_capacity new.below) (sym plan) (subst (λ (c : CoreId). length (jobs_on old.plan.now c.0) ≤ vec_capacity new.below) (sym l.core_is) (let r = fit.room in let e = l.room in omega (arith, r, e)));
      are =
          subst (λ p. AreActive p new.core.0 new.ready.taken new.phase (active_in new)) (sym plan)
          (subst (λ (c : CoreId). AreActive old.plan.now c.0 new.ready.taken new.phase (active_in new)) (sym l.core_is)
          (subst (λ (m : ReadyModel). AreActive old.plan.now old.core.0 m.taken new.phase (active_in new)) (sym l.ready_is)
          (subst (λ p. AreActive old.plan.now old.core.0 old.ready.taken p (active_in new)) (sym l.phase_is) (subst (AreActive old.plan.now old.core.0 old.ready.taken q) (sym l.active_is) are))));
      current = l.current;
    }

-- and their states are told by what is left
left_states : (old new : Jobs) (q : Phase) (active : List ActiveJob) (j : JobId) → IsLeft old new q active → state_of new j ≡ state_in old.plan.now old.ready.taken q active j
left_states old new q active j l =
    ap (λ p. state_in p new.ready.taken new.phase (active_in new) j) (ap (λ p. p.now) l.plan_is)
    ∙ (ap (λ (m : ReadyModel). state_in old.plan.now m.taken new.phase (active_in new) j) l.ready_is
    ∙ (ap (λ p. state_in old.plan.now old.ready.taken p (active_in new) j) l.phase_is
    ∙ ap (λ g. state_in old.plan.now old.ready.taken q g j) l.active_is))

-- what a unit or a wait needs to be an action
module _ (old new : Jobs) (job : JobId) (op : Op) (tick : ℕ) (r : Row) (q : Phase) (k : Kind) (res : Option ResId) (can : CanAct old job op) (row : IsRow r tick old job k res)
    (does : does_unit old.plan.now (is_waiting_phase old.phase) r (Some op) ≡ true) (phase : q ≡ phase_with old.phase k res) where
  row_job_is : r.job ≡ Some can.running.newest.job
  row_job_is = row.job_is ∙ ap (λ j. Some j) (sym can.running.same)

  action_at : (s : ActiveJob) (below : List ActiveJob) → active_in old ≡ s ∷ below → does_unit_after old.plan.now job (is_waiting_phase old.phase) s.done r ≡ true
  action_at s below e =
      let both : can.running.newest ∷ can.running.below ≡ s ∷ below = sym can.running.active ∙ e in
      let d : s.done ≡ can.running.newest.done = cc in
      ap (λ n. does_unit old.plan.now (is_waiting_phase old.phase) r (slice_get (units old.plan.now job) n)) d ∙ (ap (does_unit old.plan.now (is_waiting_phase old.phase) r) can.unit ∙ does)

  phase_at : new.phase ≡ q → new.phase ≡ phase_with old.phase r.kind r.res
  phase_at e = e ∙ (phase ∙ (ap (λ x. phase_with old.phase x res) (sym row.kind_is) ∙ ap (phase_with old.phase r.kind) (sym row.res_is)))

  acts_by : (active : List ActiveJob) → AreActive old.plan.now old.core.0 old.ready.taken q active → IsLeft old new q active → ((j : JobId) → state_in old.plan.now old.ready.taken q active j ≡ state_with r (state_in old.plan.now old.ready.taken old.phase (can.running.newest ∷ can.running.below) j)) → Acts old new job tick r
  acts_by active are left states = record {
    jobs_fit = left_fits old new q active can.jobs_fit are left;
    plan = ap (λ p. p.now) left.plan_is;
    core = left.core_is;
    ready = left.ready_is;
    row_tick = row.tick_is;
    row_core = row.core_is;
    row_job = row.job_is;
    action = action_at;
    states = λ j. left_states old new q active j left ∙ (states j ∙ ap (λ g. state_with r (state_in old.plan.now old.ready.taken old.phase g j)) (sym can.running.active));
    phase = phase_at left.phase_is;
  }

  -- a unit
  pub acts_unit : (held : List ℕ) → IsStep old.plan.now can.running.newest can.running.below q held → is_waiting k ≡ false → IsLeft old new q (advanced old.plan.now (record can.running.newest { held = held } ∷ can.running.below)) → Acts old new job tick r
  acts_unit held step acts left =
      acts_by (advanced old.plan.now (record can.running.newest { held = held } ∷ can.running.below))
      (advance_active old.plan.now can.jobs_fit.accepted old.core.0 old.ready.taken can.running.newest can.running.below old.phase (active_at old job op can) q held step) left
      (advance_states old.plan.now can.jobs_fit.accepted old.core.0 old.ready.taken can.running.newest can.running.below old.phase (active_at old job op can) q held r row_job_is (ap is_waiting row.kind_is ∙ acts) step.calm)

-- the jobs as `advance` leaves them, from these
pub record IsAdvanced (mid new : Jobs) : Type 0 where
  pub active : active_in new ≡ advanced mid.plan.now (active_in mid)
  pub size : length new.stack.started ≡ length new.below.items
  pub room : vec_capacity new.below ≡ vec_capacity mid.below
  pub stack_plan : new.stack.plan ≡ mid.stack.plan
  pub stack_core : new.stack.core ≡ mid.stack.core
  pub others : new ≡ record mid { stack = new.stack; progress = new.progress; below = new.below; rising = new.rising; units = new.units }
  pub current : IsCurrent new

-- each unit acts so: the stack and the phase change, then the job advances
pub unit_acts : (old new : Jobs) (job : JobId) (op : Op) (tick : ℕ) (r : Row) (q : Phase) (k : Kind) (res : Option ResId) (m : StackModel) (held : List ℕ) (can : CanAct old job op)
    → IsActing old job op can q m held → IsAdvanced (record old { phase = q; stack = m }) new → IsRow r tick new job k res
    → same_res res (res_of_unit op) ≡ true → allows (is_global_unit old.plan.now op) (is_waiting_phase old.phase) op k ≡ true → q ≡ phase_with old.phase k res → is_waiting k ≡ false → Acts old new job tick r
unit_acts old new job op tick r q k res m held can acting done row same may phase acts =
    let left = left_by old new q m (advanced old.plan.now (record can.running.newest { held = held } ∷ can.running.below)) acting.same_plan acting.same_core done.others done.stack_plan done.stack_core done.size done.room (done.active ∙ ap (advanced old.plan.now) acting.active) done.current in
    acts_unit old new job op tick r q k res can (record { tick_is = row.tick_is; core_is = row.core_is ∙ ap (λ (j : Jobs). j.core) done.others; job_is = row.job_is; kind_is = row.kind_is; res_is = row.res_is })
    (does_by old.plan.now (is_waiting_phase old.phase) r op k res row.res_is row.kind_is same may) phase held acting.step acts left

-- the phase of a core that holds a resource passes the test for it
pub holding_self : (r : ResId) → is_holding_phase r (Holding r) ≡ true
holding_self r = eq-eqb r.0 r.0 refl

-- what the core awaits is a global resource
pub waiting_global : (plan : PlanModel) (p : Phase) (s : ActiveJob) (below : List ActiveJob) (r : ResId) → p ≡ Queued r → HoldSo plan p (s ∷ below) → is_global plan r.0 ≡ true
waiting_global plan p s below r e h = (subst (λ p. HoldSo plan p (s ∷ below)) e h).0.global

-- ---- the next unit of a job
-- of the running job
pub next_unit : (jobs : Jobs) (job : JobId) (op : Op) → CanAct jobs job op → IsNextUnit jobs job op
next_unit jobs job op can =
    record {
      accepted = can.jobs_fit.accepted;
      levels = can.jobs_fit.levels;
      newest = can.running.newest;
      below = can.running.below;
      same = can.running.same;
      holds = holds_at jobs job op can;
      unit = can.unit;
      queued = running_queued jobs job can.running;
      done = running_done jobs job can.jobs_fit can.running;
    }

module _ (jobs : Jobs) (job : JobId) (op : Op) (next : IsNextUnit jobs job op) where
  pub next_at : slice_get (units jobs.plan.now next.newest.job) next.newest.done ≡ Some op
  next_at = ap (λ j. slice_get (units jobs.plan.now j) next.newest.done) next.same ∙ next.unit

-- an unlock of what the core doesn't hold is local
pub unlock_local : (jobs : Jobs) (job : JobId) (res : ResId) → IsNextUnit jobs job (UnlockUnit res) → is_holding_phase res jobs.phase ≡ false → is_global jobs.plan.now res.0 ≡ false
unlock_local jobs job res next off = false_from_ne_true (is_global jobs.plan.now res.0) (λ t.
    true≢false (sym (ap (is_holding_phase res) (release_phase jobs.plan.now next.accepted next.newest next.below jobs.phase res next.holds (next_at jobs job (UnlockUnit res) next) t) ∙ holding_self res) ∙ off))
