-- What the rows of a trace say of a core, of a task and of a resource.
use Rattle.std.specs.Prelude.{◌==◌, ◌&&◌, ◌||◌, if◌then◌else◌, ◌/◌, ◌≡◌, ◌<◌, ◌+◌, ◌-◌, ◌*◌}
use Rattle.msrp_plan.specs.Common.{ℕ, List, [], Bool, false, not, nat_lt, nat_le, Option, Some, None, fold, count_by, length, PlanModel, key, task_at, is_released, is_waiting, job_at, log_of, fifo, is_on, is_some, slice_index_or, most_cores, most_resources, most_tasks, is_grant, is_release, is_release_of, is_request, same_kind, take, nat_eq, option_map, IsPlan}
use Rattle.msrp_plan.specs.declared.ids.JobId.{JobId}
use Rattle.msrp_plan.specs.declared.rows.Kind.{Kind}
use Rattle.msrp_plan.specs.declared.rows.Kind.TheVariants.{Lock, Unlock, Take}
pub use Rattle.msrp_plan.specs.declared.rows.Row.{Row}
use Rattle.msrp_export.specs.declared.signals.ResourceState.{ResourceState}
use Rattle.msrp_export.specs.declared.tasks.TaskState.{TaskState}
use Rattle.msrp_export.specs.declared.tasks.TaskState.TheVariants.{Unreleased, Ready, Running, Holding, Spinning}
use Rattle.msrp_export.specs.declared.tasks.TaskStatus.{TaskStatus}
use Rattle.msrp_export.specs.declared.summary.ResourceUse.{ResourceUse}
use Rattle.msrp_export.specs.declared.summary.Summary.{Summary}
use Rattle.msrp_export.specs.declared.summary.TaskCounts.{TaskCounts}
use Rattle.msrp_export.specs.declared.exporter.Exporter.{Exporter}
use Rattle.msrp_export.specs.declared.signals.Signals.{Signals}
use Rattle.msrp_export.specs.declared.signals.State.{State}
use Rattle.msrp_export.specs.declared.signals.State.TheVariants.{Core as CoreState, Resource as StateOfResource, Task as StateOfTask}
use Rattle.msrp_export.specs.declared.signals.Track.{Track}
use Rattle.msrp_export.specs.declared.signals.Track.TheVariants.{Core, Resource, Task}

-- a row of these kinds gives its job a resource
abbrev pub acquires : Kind → Bool
acquires k = same_kind k Lock || (same_kind k Take || is_grant k)

-- a row of these kinds takes a resource from its job
abbrev pub gives_up : Kind → Bool
gives_up k = same_kind k Unlock || is_release k

-- ---- cores
-- the last row of a core, if it has one: what the core does
abbrev pub last_row : ℕ → List Row → Option Row
last_row c rows = fold (λ _ r. Some r) None (log_of c rows)

-- ---- tasks
-- the job is one of the task
abbrev pub is_job_of : ℕ → Option JobId → Bool
is_job_of t None = false
is_job_of t (Some j) = j.task.0 == t

-- the units that the jobs of a task have done: their rows without those in which they wait
abbrev pub work : ℕ → List Row → ℕ
work t rows = count_by (λ r. is_job_of t r.job && not (is_waiting r.kind)) rows

-- how often the jobs of a task came to hold a resource
abbrev pub acquired : ℕ → List Row → ℕ
acquired t rows = count_by (λ r. is_job_of t r.job && acquires r.kind) rows

-- how often they gave one up
abbrev pub given_up : ℕ → List Row → ℕ
given_up t rows = count_by (λ r. is_job_of t r.job && gives_up r.kind) rows

-- the first job of a task that isn't finished: each job of the task has all its units
abbrev pub job_after : PlanModel → List Row → ℕ → JobId
job_after plan rows t = job_at t (work t rows / length (task_at plan t).units)

-- the last row of a core, if it is one of the task in this tick
abbrev pub row_in : ℕ → ℕ → Option Row → Option Row
row_in tick t None = None
row_in tick t (Some r) = if (r.tick == tick) && is_job_of t r.job then Some r else None

-- a released job spins if it waits in its row; else it holds a resource, even if another job runs;
-- else it runs if it has a row
abbrev pub released_state : Bool → Option Row → TaskState
released_state holds None = if holds then Holding else Ready
released_state holds (Some r) = if is_waiting r.kind then Spinning else (if holds then Holding else Running)

-- all that a task does in a tick, by the rows before the tick and those up to its end. The job is
-- the one that the task is at when the tick begins; it is late from its absolute deadline on
abbrev pub task_status : PlanModel → List Row → List Row → ℕ → ℕ → TaskStatus
task_status plan before rows tick t = record {
  state = if is_released plan tick (job_after plan before t) then released_state (nat_lt (given_up t rows) (acquired t rows)) (row_in tick t (last_row (task_at plan t).core rows)) else Unreleased;
  job = job_after plan before t;
  late = nat_le (key plan (job_after plan before t)).deadline tick;
  row = row_in tick t (last_row (task_at plan t).core rows);
  work = work t before;
}

-- ---- resources
-- the holder of a resource after one more row on it
abbrev pub holder_by : Option JobId → Row → Option JobId
holder_by held r = if acquires r.kind then r.job else (if gives_up r.kind then None else held)

-- the job that was last given the resource, unless it has given it up
abbrev pub holder : ℕ → List Row → Option JobId
holder g rows = fold (λ held r. if is_on g r.res then holder_by held r else held) None rows

-- the row is a request of a job for the resource
abbrev pub is_request_of : ℕ → Row → Bool
is_request_of g r = is_on g r.res && (is_some r.job && is_request r.kind)

-- the holder, and how many jobs are in the queue
abbrev pub resource_state : ℕ → List Row → ResourceState
resource_state g rows = record { holder = holder g rows; queue_length = length (fifo g rows) }

-- ---- what is kept of rows in place of the rows
-- of a task
abbrev pub counts_of : ℕ → List Row → TaskCounts
counts_of t rows = record { work = work t rows; acquired = acquired t rows; given_up = given_up t rows }

-- of a resource
abbrev pub use_of : ℕ → List Row → ResourceUse
use_of g rows = record { holder = holder g rows; requests = count_by (is_request_of g) rows; releases = count_by (is_release_of g) rows }

-- with one more row of the task
abbrev pub counted : Row → TaskCounts → TaskCounts
counted r c = record {
  work = c.work + (if not (is_waiting r.kind) then 1 else 0);
  acquired = c.acquired + (if acquires r.kind then 1 else 0);
  given_up = c.given_up + (if gives_up r.kind then 1 else 0);
}

-- with one more row on the resource
abbrev pub used : Row → ResourceUse → ResourceUse
used r u = record {
  holder = holder_by u.holder r;
  requests = u.requests + (if is_some r.job && is_request r.kind then 1 else 0);
  releases = u.releases + (if is_release r.kind then 1 else 0);
}

-- the summary is that of these rows
pub record Summarizes (s : Summary) (rows : List Row) : Type 0 where
  pub last_rows : (c : ℕ) → c < most_cores → slice_index_or s.last_rows c None ≡ last_row c rows
  pub tasks : (t : ℕ) → t < most_tasks → slice_index_or s.tasks t (counts_of t []) ≡ counts_of t rows
  pub uses : (g : ℕ) → g < most_resources → slice_index_or s.uses g (use_of g []) ≡ use_of g rows

-- ---- the states in a tick, which has one row of each core, and in the tick before
-- the track is one of the plan
abbrev pub IsTrack : PlanModel → Track → Type 0
IsTrack plan (Core c) = c.0 < plan.cores
IsTrack plan (Task t) = t.0 < length plan.tasks
IsTrack plan (Resource g) = g.0 < length plan.resources

-- the rows before a tick
abbrev pub rows_before : PlanModel → List Row → ℕ → List Row
rows_before plan rows tick = take (tick * plan.cores) rows

-- the state on a track in a tick, by the rows before the tick and those up to its end
abbrev pub state_of : PlanModel → List Row → List Row → ℕ → Track → Option State
state_of plan before rows tick (Core c) = option_map CoreState (last_row c.0 rows)
state_of plan before rows tick (Task t) = Some (StateOfTask (task_status plan before rows tick t.0))
state_of plan before rows tick (Resource g) = Some (StateOfResource (resource_state g.0 rows))

-- the state on a track in a tick of a trace
abbrev pub state_in : PlanModel → List Row → ℕ → Track → Option State
state_in plan rows tick track = state_of plan (rows_before plan rows tick) (rows_before plan rows (tick + 1)) tick track

-- in the tick before, if there is one
abbrev pub state_before : PlanModel → List Row → ℕ → Track → Option State
state_before plan rows tick track = if nat_eq tick 0 then None else state_in plan rows (tick - 1) track

-- what is kept is that of these rows: of those before the tick before, those before the tick, and
-- those up to its end
pub record TellTick (s : Signals) (rows : List Row) : Type 0 where
  pub earlier : Summarizes s.earlier (rows_before s.plan.now rows (s.tick - 1))
  pub before : Summarizes s.before (rows_before s.plan.now rows s.tick)
  pub latest : Summarizes s.latest (rows_before s.plan.now rows (s.tick + 1))

-- the exporter has taken these rows
pub record HasTaken (e : Exporter) (rows : List Row) : Type 0 where
  pub plan : IsPlan e.signals.plan.now
  pub size : length rows ≡ e.signals.tick * e.signals.plan.now.cores + e.turns
  pub turns : e.turns < e.signals.plan.now.cores
  pub signals : TellTick e.signals rows
