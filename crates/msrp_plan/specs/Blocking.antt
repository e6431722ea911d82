-- Blocking by later jobs: which rows block a job, and where in their outermost sections those are.
use Rattle.std.specs.Prelude.{ℕ, List, [], ◌∷◌, ◌++◌, Bool, true, false, ◌==◌, ◌&&◌, ◌||◌, not, Option, Some, None, if◌then◌else◌, filter, ◌≡◌, ◌<◌, ◌≤◌, ◌+◌}
use Rattle.std.specs.List.{AllByRecursion, Contains}
use Rattle.msrp_plan.specs.Plan.{PlanModel, task_of, core_of, units, release}
use Rattle.msrp_plan.specs.Jobs.{jobs, jobs_on, is_row_of, is_released, is_started, is_finished, is_queued, done}
use Rattle.msrp_plan.specs.Choice.{is_before, least, running}
use Rattle.msrp_plan.specs.Bounds.{in_section, section_start, out, blocked_bound}
use Rattle.msrp_plan.specs.Runs.{EachAfter}
use Rattle.msrp_plan.specs.declared.ids.JobId.{JobId}
use Rattle.msrp_plan.specs.declared.rows.Row.{Row}

-- the number of elements that pass a test over the elements before them, the first of which are pre
abbrev pub count_after : {X : Type 0} → (List X → X → Bool) → List X → List X → ℕ
count_after p pre [] = 0
count_after p pre (x ∷ xs) = (if p pre x then 1 else 0) + count_after p (pre ++ x ∷ []) xs

-- ---- rows that block a job
-- a job with a greater key
abbrev pub is_later : PlanModel → JobId → Option JobId → Bool
is_later plan j None = false
is_later plan j (Some k) = is_before plan j k

-- the row is of a later job of j's core, at or after j's release, and j isn't finished before it
abbrev pub blocks : PlanModel → JobId → List Row → Row → Bool
blocks plan j pre r = (r.core.0 == core_of plan j) && (is_released plan r.tick j && (not (is_finished plan pre j) && is_later plan j r.job))

-- the number of rows that block the job
abbrev pub blocked : PlanModel → List Row → JobId → ℕ
blocked plan rows j = count_after (blocks plan j) [] rows

-- the first of the later jobs of its core that are started and unfinished
abbrev pub first_later : PlanModel → List Row → JobId → Option JobId
first_later plan pre j = least (is_before plan) (filter (λ k. (is_started pre k && not (is_finished plan pre k)) && is_before plan j k) (jobs_on plan (core_of plan j)))

-- the row is of the job, if there is one
abbrev pub is_by : Option JobId → Row → Bool
is_by None r = false
is_by (Some k) r = is_row_of k r

-- ---- sections
-- the job is in an outermost section, after its first row: it holds or is queued for a resource
abbrev pub is_amid : PlanModel → List Row → JobId → Bool
is_amid plan pre k = is_queued pre k || in_section plan (units plan k) (done k pre)

-- the unit that begins the section
abbrev pub section_of : PlanModel → List Row → JobId → ℕ
section_of plan pre k = section_start plan (units plan k) (done k pre)

-- the row is job k's, after the first one of the outermost section that unit a begins
abbrev pub continues : PlanModel → JobId → ℕ → List Row → Row → Bool
continues plan k a pre r = is_row_of k r && (is_amid plan pre k && (section_of plan pre k == a))

-- the first row of the outermost section that job k is in was made before tick t
pub record IsBegun (plan : PlanModel) (pre : List Row) (k : JobId) (t : ℕ) : Type 0 where
  pub before : List Row
  pub first : Row
  pub after : List Row
  pub rows : pre ≡ before ++ first ∷ after
  pub job : first.job ≡ Some k
  pub outside : is_amid plan before k ≡ false
  pub unit : done k before ≡ section_of plan pre k
  pub early : first.tick < t

-- ---- the laws
-- the row that blocks j is of job k: k is the first of the core's started, unfinished jobs, has a
-- longer relative deadline, and is in an outermost section that it began before j's release
pub record IsBlocker (plan : PlanModel) (pre : List Row) (r : Row) (j k : JobId) : Type 0 where
  pub job : r.job ≡ Some k
  pub runs : running plan r.core.0 pre ≡ Some k
  pub longer : (task_of plan j).deadline < (task_of plan k).deadline
  pub amid : is_amid plan pre k ≡ true
  pub begun : IsBegun plan pre k (release plan j)

-- each row that blocks a job of the plan has such a blocker
abbrev pub HasBlockers : PlanModel → List Row → Row → Type 0
HasBlockers plan pre r = (j : JobId) → Contains (jobs plan) j → blocks plan j pre r ≡ true → (k : JobId) × IsBlocker plan pre r j k

-- each row of a run that blocks a job has such a blocker
abbrev pub BlockedByBegunSections : PlanModel → List Row → Type 0
BlockedByBegunSections plan rows = EachAfter (HasBlockers plan) [] rows

-- the row, if it blocks j, is job k's, after the first of the outermost section that unit a begins
abbrev pub BlocksFrom : PlanModel → JobId → JobId → ℕ → List Row → Row → Type 0
BlocksFrom plan j k a pre r = blocks plan j pre r ≡ true → continues plan k a pre r ≡ true

-- one job, and one of its outermost sections, give all rows that block a job of the plan
abbrev pub BlockedByOneSection : PlanModel → List Row → Type 0
BlockedByOneSection plan rows = (j : JobId) → Contains (jobs plan) j → (k : JobId) × (a : ℕ) × EachAfter (BlocksFrom plan j k a) [] rows

-- no outermost section of a job has more rows after its first than the plan's bound
abbrev pub BoundedSections : PlanModel → List Row → Type 0
BoundedSections plan rows = (k : JobId) (a : ℕ) → count_after (continues plan k a) [] rows ≤ out plan (task_of plan k)

-- so no job of the plan is blocked for more rows than the plan's bound
abbrev pub BoundedBlocking : PlanModel → List Row → Type 0
BoundedBlocking plan rows = (j : JobId) → Contains (jobs plan) j → blocked plan rows j ≤ blocked_bound plan (task_of plan j)

-- the row, if it is of the job's core, is before the job's release; or at it or later
abbrev pub ComesBefore : PlanModel → JobId → Row → Type 0
ComesBefore plan j r = r.core.0 ≡ core_of plan j → r.tick < release plan j

abbrev pub ComesAfter : PlanModel → JobId → Row → Type 0
ComesAfter plan j r = r.core.0 ≡ core_of plan j → release plan j ≤ r.tick

-- the rows of the job's core before its release are among the first rows, its others among the rest
pub record IsSplitAtRelease (plan : PlanModel) (j : JobId) (pre rest : List Row) : Type 0 where
  pub early : AllByRecursion (ComesBefore plan j) pre
  pub late : AllByRecursion (ComesAfter plan j) rest

-- the row is of job k, if there is one, and comes before j starts
abbrev pub delays_start : JobId → Option JobId → List Row → Row → Bool
delays_start j k before r = not (is_started before j) && is_by k r

-- a job's blocker is known at its release: the first of the later jobs that are started and
-- unfinished then; exactly the rows of that job before the blocked job starts count
abbrev pub BlockedSinceRelease : PlanModel → List Row → Type 0
BlockedSinceRelease plan rows =
    (j : JobId) (pre rest : List Row) → rows ≡ pre ++ rest → Contains (jobs plan) j → IsSplitAtRelease plan j pre rest → blocked plan rows j ≡ count_after (delays_start j (first_later plan pre j)) pre rest
