-- The counts of each job while rows arrive, and what they say of the rows so far.
use Rattle.std.specs.Prelude.{◌∷◌, ◌++◌, ◌&&◌, ◌==◌, ◌≡◌, ◌<◌, ◌≤◌, ◌+◌, ◌/◌, if◌then◌else◌}
use Rattle.msrp_plan.specs.Common.{ℕ, List, [], Bool, true, false, not, nat_le, nat_lt, Option, Some, None, IsSome, map, count_by, length, slice_get, vec_capacity, All, AllByRecursion, Contains, list_any, range_with_len, IsNonDecreasingBy, IsPermutation, PlanModel, task_at, release, release_tick, is_before, jobs, job_at, jobs_of, jobs_on, same_job, is_started, is_finished, blocked, first_later, IsRunStart, IsPlan}
use Rattle.msrp_report.specs.Common.{JobId, Kind, Row}
use Rattle.std.specs.List.{IsDistinct}
use Rattle.msrp_plan.specs.Blocking.{ComesBefore, ComesAfter}
use Rattle.msrp_report.specs.Inside.Counts.{count_of}
use Rattle.msrp_report.specs.declared.tallies.active.CoreJobs.{CoreJobs}
use Rattle.msrp_report.specs.declared.tallies.Blocking.{Blocking}
use Rattle.msrp_report.specs.declared.tallies.Blocking.TheVariants.{Over, By}
use Rattle.msrp_report.specs.declared.tallies.JobTally.{JobTally}
use Rattle.msrp_report.specs.declared.tallies.NextRelease.{NextRelease}
use Rattle.msrp_report.specs.declared.tallies.TaskTally.{TaskTally}
use Rattle.msrp_report.specs.declared.tallies.Tallies.{Tallies}

-- ---- blocking
-- some rows of the job's core before its release, and those since; this job, if any, is the first
-- of the later jobs of its core that are started and unfinished at the release
pub record IsSinceRelease (plan : PlanModel) (rows : List Row) (j : JobId) (o : Option JobId) : Type 0 where
  pub before : List Row
  pub since : List Row
  pub whole : rows ≡ before ++ since
  pub early : AllByRecursion (ComesBefore plan j) before
  pub late : AllByRecursion (ComesAfter plan j) since
  pub first : first_later plan before j ≡ o

-- n rows have blocked the job, and no later one will: it is started, unblocked or unreleased
pub record IsOver (plan : PlanModel) (rows : List Row) (released : Bool) (j : JobId) (n : ℕ) : Type 0 where
  pub count : blocked plan rows j ≡ n
  pub ahead : released ≡ false → (n ≡ 0) × (is_started rows j ≡ false)
  pub nobody : released ≡ true → is_started rows j ≡ false → IsSinceRelease plan rows j None

-- the job is released and not started, and rows of job k block it, which had n rows at the release
pub record WaitsFor (plan : PlanModel) (rows : List Row) (released : Bool) (j k : JobId) (n : ℕ) : Type 0 where
  pub come : released ≡ true
  pub unstarted : is_started rows j ≡ false
  pub since : IsSinceRelease plan rows j (Some k)
  pub rows_then : (count_of since.before k).rows ≡ n

-- what is stored of the rows that block the job
abbrev pub IsBlocking : PlanModel → List Row → Bool → JobId → Blocking → Type 0
IsBlocking plan rows released j (Over n) = IsOver plan rows released j n
IsBlocking plan rows released j (By k n) = WaitsFor plan rows released j k n

-- ---- jobs, task by task
pub record IsJobTally (plan : PlanModel) (rows : List Row) (released : Bool) (j : JobId) (s : JobTally) : Type 0 where
  pub count : s.count ≡ count_of rows j
  pub blocking : IsBlocking plan rows released j s.blocking

-- the job is started and unfinished
abbrev pub is_active : PlanModel → List Row → JobId → Bool
is_active plan rows j = is_started rows j && not (is_finished plan rows j)

-- the tick of the k-th release of a task, or the plan's end if it has no such job
abbrev pub release_or_end : PlanModel → ℕ → ℕ → ℕ
release_or_end plan t k = if nat_lt k (length (jobs_of plan t)) then release plan (job_at t k) else plan.ticks

-- the counts of task t after these begun ticks: exactly the jobs with a release in them are there
pub record IsTaskTally (plan : PlanModel) (rows : List Row) (begun t : ℕ) (x : TaskTally) : Type 0 where
  pub size : length x.jobs.items ≡ length (jobs_of plan t)
  pub units : x.units ≡ length (task_at plan t).units
  pub fits : x.released ≤ length (jobs_of plan t)
  pub past : (k : ℕ) → k < x.released → release plan (job_at t k) < begun
  pub later : begun ≤ release_or_end plan t x.released
  pub each : (k : ℕ) (s : JobTally) → slice_get x.jobs.items k ≡ Some s → IsJobTally plan rows (nat_lt k x.released) (job_at t k) s

-- the counts of all tasks, each with its own number of begun ticks
pub record AreTallies (plan : PlanModel) (rows : List Row) (begun : ℕ → ℕ) (tasks : List TaskTally) : Type 0 where
  pub start : IsRunStart plan rows
  pub size : length tasks ≡ length plan.tasks
  pub each : (t : ℕ) (x : TaskTally) → slice_get tasks t ≡ Some x → IsTaskTally plan rows (begun t) t x

-- ---- releases
-- it is the next release of its task
abbrev pub IsNextRelease : PlanModel → List TaskTally → NextRelease → Type 0
IsNextRelease plan tasks r = (x : TaskTally) → slice_get tasks r.task.0 ≡ Some x → r.tick ≡ release_or_end plan r.task.0 x.released

-- the next release of each task, once, the earliest first
pub record AreReleases (plan : PlanModel) (tasks : List TaskTally) (releases : List NextRelease) : Type 0 where
  pub own : All (IsNextRelease plan tasks) releases
  pub once : IsPermutation (range_with_len 0 (length plan.tasks)) (map (λ r. r.task.0) releases)
  pub rising : IsNonDecreasingBy (λ r. r.tick) releases

-- ---- jobs that are started and unfinished
abbrev pub same_task : JobId → JobId → Bool
same_task i j = i.task.0 == j.task.0

-- each such job of core c is there once, and no other; no two are of one task, so one more has room
pub record AreActiveOf (plan : PlanModel) (rows : List Row) (c : ℕ) (x : CoreJobs) : Type 0 where
  pub known : AllByRecursion (Contains (jobs_on plan c)) x.jobs.items
  pub active : (j : JobId) → Contains (jobs_on plan c) j → list_any (same_job j) x.jobs.items ≡ is_active plan rows j
  pub apart : IsDistinct same_task x.jobs.items
  pub room : length plan.tasks ≤ vec_capacity x.jobs

-- each core's started, unfinished jobs are there so
pub record AreActive (plan : PlanModel) (rows : List Row) (cores : List CoreJobs) : Type 0 where
  pub size : length cores ≡ plan.cores
  pub each : (c : ℕ) (x : CoreJobs) → slice_get cores c ≡ Some x → AreActiveOf plan rows c x

-- ---- ticks
-- this many ticks have begun with these rows, the last perhaps not for all cores
pub record HaveBegun (plan : PlanModel) (rows : List Row) (begun : ℕ) : Type 0 where
  pub early : AllByRecursion (λ r. r.tick < begun) rows
  pub least : length rows / plan.cores ≤ begun
  pub most : begun ≤ length rows / plan.cores + 1

-- the counts are those of these rows
pub record HasTallied (plan : PlanModel) (rows : List Row) (t : Tallies) : Type 0 where
  pub begun : HaveBegun plan rows t.begun
  pub tallies : AreTallies plan rows (λ _. t.begun) t.tasks.items
  pub releases : AreReleases plan t.tasks.items t.releases.items
  pub active : AreActive plan rows t.active.items

-- ---- one job
-- the job is of a task of the plan, and has a release
pub record IsKnown (plan : PlanModel) (j : JobId) : Type 0 where
  pub task : j.task.0 < length plan.tasks
  pub released : IsSome (release_tick plan j)

-- the job's tally is there
pub record IsTallyOf (tasks : List TaskTally) (j : JobId) (s : JobTally) : Type 0 where
  pub task : TaskTally
  pub of_task : slice_get tasks j.task.0 ≡ Some task
  pub of_job : slice_get task.jobs.items j.k ≡ Some s

-- the tallies of some rows of a plan that has the job
pub record ToldOf (tasks : List TaskTally) (j : JobId) : Type 0 where
  pub plan : PlanModel
  pub rows : List Row
  pub begun : ℕ → ℕ
  pub accepted : IsPlan plan
  pub tallies : AreTallies plan rows begun tasks
  pub known : Contains (jobs plan) j

-- the tallies of some rows of the plan
pub record ToldBy (plan : PlanModel) (t : Tallies) : Type 0 where
  pub rows : List Row
  pub begun : ℕ → ℕ
  pub tallies : AreTallies plan rows begun t.tasks.items
  pub active : AreActive plan rows t.active.items

-- how a job is blocked from its release by this job, if there is one
abbrev pub blocking_by : List Row → Option JobId → Blocking
blocking_by rows None = Over 0
blocking_by rows (Some j) = By j (count_of rows j).rows

-- ---- the first of the later jobs that are active
abbrev pub is_later_active : PlanModel → List Row → JobId → JobId → Bool
is_later_active plan rows j k = is_active plan rows k && is_before plan j k

-- the job isn't before this one, if there is one
abbrev pub NotBefore : PlanModel → JobId → Option JobId → Type 0
NotBefore plan i None = ⊥
NotBefore plan i (Some f) = is_before plan i f ≡ false

-- of these jobs
pub record IsFirstOf (plan : PlanModel) (j : JobId) (others : List JobId) (o : Option JobId) : Type 0 where
  pub known : (f : JobId) → o ≡ Some f → (list_any (same_job f) others ≡ true) × (is_before plan j f ≡ true)
  pub least : (i : JobId) → list_any (same_job i) others ≡ true → is_before plan j i ≡ true → NotBefore plan i o

-- ---- the releases of a tick
-- all rows are in begun ticks; for some tasks the next tick has begun too
pub record HasReleased (plan : PlanModel) (rows : List Row) (t : Tallies) : Type 0 where
  pub early : AllByRecursion (λ r. r.tick < t.begun) rows
  pub begun : ℕ → ℕ
  pub low : (u : ℕ) → t.begun ≤ begun u
  pub high : (u : ℕ) → begun u ≤ t.begun + 1
  pub tallies : AreTallies plan rows begun t.tasks.items
  pub releases : AreReleases plan t.tasks.items t.releases.items
  pub active : AreActive plan rows t.active.items

-- the first release is in the tick that begins, or before it
abbrev pub is_due : ℕ → List NextRelease → Bool
is_due begun [] = false
is_due begun (r ∷ rs) = nat_le r.tick begun

-- how many of them do
abbrev pub due_count : Tallies → ℕ
due_count t = count_by (λ r. nat_le r.tick t.begun) t.releases.items

-- ---- one row more
-- the row follows these rows, in the tick begun last
pub record IsNextOf (plan : PlanModel) (rows : List Row) (r : Row) (begun : ℕ) : Type 0 where
  pub start : IsRunStart plan (rows ++ r ∷ [])
  pub tick : begun ≡ r.tick + 1

-- the stored counts are those of some rows that this row follows
abbrev pub Counts : PlanModel → Row → Tallies → Type 0
Counts plan r t = (rows : List Row) × AreTallies plan rows (λ _. t.begun) t.tasks.items × IsNextOf plan rows r t.begun × AreActive plan rows t.active.items

-- a row of this job, tick and kind follows
pub record CountsAs (plan : PlanModel) (j : JobId) (at : ℕ) (k : Kind) (r : Row) (t : Tallies) : Type 0 where
  pub job : r.job ≡ Some j
  pub tick : r.tick ≡ at
  pub kind : r.kind ≡ k
  pub counts : Counts plan r t
