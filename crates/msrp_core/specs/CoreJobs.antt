-- The stored jobs of a core, and what a turn does to them.
use Rattle.std.specs.Prelude.{◌∷◌, ◌&&◌, ◌||◌, ◌≡◌, ◌<◌, ◌≤◌, if◌then◌else◌}
use Rattle.msrp_plan.specs.Common.{ℕ, List, true, Option, Some, None, nat_lt, Bool, length, reverse, slice_get, vec_capacity, AllByRecursion, Contains, ForSome, PlanModel, units, jobs_on, is_job, level, comes_first, does_unit_after, JobState, state_after, IsPlan}
use Rattle.msrp_core.specs.Common.{Idle, JobId, Jobs, Row, head, phase_with}
use Rattle.msrp_plan.specs.declared.units.Op.{Op}
use Rattle.msrp_plan.specs.States.{state_with}
use Rattle.msrp_stack.specs.Stack.{newest as newest_started}
use Rattle.msrp_core.specs.Ports.{PortModel, claim_in}
use Rattle.msrp_core.specs.Active.{ActiveJob, active_of, state_in, is_waiting_phase, HoldSo, AreActive}

-- how many units the started jobs have done, the newest first; later entries mean nothing
abbrev pub units_done : Jobs → List ℕ
units_done jobs = jobs.progress ∷ reverse jobs.below.items

-- the active jobs, the newest first
abbrev pub active_in : Jobs → List ActiveJob
active_in jobs = active_of jobs.stack.started (units_done jobs)

-- how far a job of the core is
abbrev pub state_of : Jobs → JobId → JobState
state_of jobs j = state_in jobs.plan.now jobs.ready.taken jobs.phase (active_in jobs) j

-- the head if it comes before the running job; otherwise none
abbrev pub rising_of : PlanModel → Option JobId → Option JobId → Option JobId
rising_of plan None running = None
rising_of plan (Some h) running = if comes_first plan h running then Some h else None

-- the stored facts on head and running job are right: who rises, and the running job's units
pub record IsCurrent (jobs : Jobs) : Type 0 where
  pub rising : jobs.rising ≡ rising_of jobs.plan.now (head jobs.ready) (newest_started jobs.stack.started)
  pub units : ForSome (newest_started jobs.stack.started) (λ j. jobs.units ≡ units jobs.plan.now j)

-- the head and the started jobs are jobs of the core
pub record AreOfCore (jobs : Jobs) : Type 0 where
  pub first : ForSome (head jobs.ready) (Contains (jobs_on jobs.plan.now jobs.core.0))
  pub started : AllByRecursion (λ s. Contains (jobs_on jobs.plan.now jobs.core.0) s.job) jobs.stack.started

-- the stored facts on the jobs of a core fit together, with room for all jobs
pub record AreJobs (jobs : Jobs) : Type 0 where
  pub accepted : IsPlan jobs.plan.now
  pub levels : jobs.levels.now ≡ jobs.plan.now
  pub ready_plan : jobs.ready.plan ≡ jobs.plan.now
  pub ready_core : jobs.ready.core ≡ jobs.core.0
  pub stack_plan : jobs.stack.plan ≡ jobs.plan.now
  pub stack_core : jobs.stack.core ≡ jobs.core.0
  pub size : length jobs.stack.started ≡ length jobs.below.items
  pub room : length (jobs_on jobs.plan.now jobs.core.0) ≤ vec_capacity jobs.below
  pub are : AreActive jobs.plan.now jobs.core.0 jobs.ready.taken jobs.phase (active_in jobs)
  pub current : IsCurrent jobs

-- the job is preferred to the running one: its level is above the ceiling, and it comes first
abbrev pub is_preferred : PlanModel → ℕ → JobId → Option JobId → Bool
is_preferred plan above h s = nat_lt above (level plan h.task.0) && comes_first plan h s

-- the rows of a log leave the jobs of the core so
abbrev pub AreToldBy : Jobs → List Row → Type 0
AreToldBy jobs log = AllByRecursion (λ j. state_after log j ≡ state_of jobs j) (jobs_on jobs.plan.now jobs.core.0)

-- the state of a job where this one, if there is one, is started
abbrev pub started_with : Option JobId → JobState → JobState
started_with o s = record s { started = s.started || is_job o s.job }

-- the plan, its levels, the core and its phase are unchanged
pub record IsSamePlace (old new : Jobs) : Type 0 where
  pub plan : new.plan ≡ old.plan
  pub levels : new.levels ≡ old.levels
  pub core : new.core ≡ old.core
  pub phase : new.phase ≡ old.phase

-- the stack is of the same core of the same plan
pub record IsSameStack (old new : Jobs) : Type 0 where
  pub plan : new.stack.plan ≡ old.stack.plan
  pub core : new.stack.core ≡ old.stack.core

-- the job is the newest active one
pub record IsRunning (jobs : Jobs) (job : JobId) : Type 0 where
  pub newest : ActiveJob
  pub below : List ActiveJob
  pub active : active_in jobs ≡ newest ∷ below
  pub same : newest.job ≡ job

-- the job is the newest active one, and this is its next unit
pub record CanAct (jobs : Jobs) (job : JobId) (op : Op) : Type 0 where
  pub jobs_fit : AreJobs jobs
  pub running : IsRunning jobs job
  pub unit : slice_get (units jobs.plan.now job) running.newest.done ≡ Some op

-- the core's claim in the port is what the core holds or awaits, it may make another call, and the
-- port has the plan's resources
pub record CanCall (jobs : Jobs) (port : PortModel) : Type 0 where
  pub claim : claim_in jobs.core.0 port.calls ≡ jobs.phase
  pub room : 0 < port.rooms jobs.core.0
  pub resources : port.resources ≡ length jobs.plan.now.resources

-- the newest job did its next unit, or waits for it, as the row says
pub record Acts (old new : Jobs) (job : JobId) (tick : ℕ) (r : Row) : Type 0 where
  pub jobs_fit : AreJobs new
  pub plan : new.plan.now ≡ old.plan.now
  pub core : new.core ≡ old.core
  pub ready : new.ready ≡ old.ready
  pub row_tick : r.tick ≡ tick
  pub row_core : r.core ≡ old.core
  pub row_job : r.job ≡ Some job
  pub action : (s : ActiveJob) (below : List ActiveJob) → active_in old ≡ s ∷ below → does_unit_after old.plan.now job (is_waiting_phase old.phase) s.done r ≡ true
  pub states : (j : JobId) → state_of new j ≡ state_with r (state_of old j)
  pub phase : new.phase ≡ phase_with old.phase r.kind r.res

-- no job runs: the row is idle, and nothing changes but a number that means nothing
pub record Idles (old new : Jobs) (tick : ℕ) (r : Row) : Type 0 where
  pub same : new ≡ record old { progress = new.progress }
  pub active : active_in (record old { progress = new.progress }) ≡ active_in old
  pub row_tick : r.tick ≡ tick
  pub row_core : r.core ≡ old.core
  pub row_job : r.job ≡ None
  pub row_res : r.res ≡ None
  pub kind : r.kind ≡ Idle

-- the chosen job acts, or the core idles
abbrev pub ActsFor : Jobs → Jobs → Option JobId → ℕ → Row → Type 0
ActsFor old new None tick r = Idles old new tick r
ActsFor old new (Some job) tick r = Acts old new job tick r

-- this is the job's next unit; it is then the newest active one, with its resources and units done
pub record IsNextUnit (jobs : Jobs) (job : JobId) (op : Op) : Type 0 where
  pub accepted : IsPlan jobs.plan.now
  pub levels : jobs.levels.now ≡ jobs.plan.now
  pub newest : ActiveJob
  pub below : List ActiveJob
  pub same : newest.job ≡ job
  pub holds : HoldSo jobs.plan.now jobs.phase (newest ∷ below)
  pub unit : slice_get (units jobs.plan.now job) newest.done ≡ Some op
  pub queued : (state_of jobs job).queued ≡ is_waiting_phase jobs.phase
  pub done : (state_of jobs job).done ≡ newest.done

-- the row does the next unit of the job, or waits for it
pub record DoesNext (jobs : Jobs) (job : JobId) (tick : ℕ) (r : Row) : Type 0 where
  pub row_tick : r.tick ≡ tick
  pub row_core : r.core ≡ jobs.core
  pub row_job : r.job ≡ Some job
  pub action : does_unit_after jobs.plan.now job (state_of jobs job).queued (state_of jobs job).done r ≡ true

-- the row is idle
pub record IsIdle (jobs : Jobs) (tick : ℕ) (r : Row) : Type 0 where
  pub row_tick : r.tick ≡ tick
  pub row_core : r.core ≡ jobs.core
  pub row_job : r.job ≡ None
  pub kind : r.kind ≡ Idle

-- the row is one of the chosen job, if any, whatever a global resource replies
abbrev pub IsTurnOf : Jobs → Option JobId → ℕ → Row → Type 0
IsTurnOf jobs None tick r = IsIdle jobs tick r
IsTurnOf jobs (Some job) tick r = DoesNext jobs job tick r
