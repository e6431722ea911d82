-- The consequences of the rules in the words of scheduling; a run continues in every order.
use Rattle.std.specs.Prelude.{ℕ, List, [], true, false, Some, count_by, length, ◌==◌, ◌≡◌, ◌≢◌, ◌↔◌, ◌<◌, ◌≤◌, ◌*◌, ◌/◌}
use Rattle.std.specs.List.{Contains}
use Rattle.msrp_plan.specs.Plan.{PlanModel, release}
use Rattle.msrp_plan.specs.Jobs.{jobs_on, is_started, is_finished}
use Rattle.msrp_plan.specs.Levels.{level}
use Rattle.msrp_plan.specs.Ceiling.{ceiling}
use Rattle.msrp_plan.specs.Choice.{is_before}
use Rattle.msrp_plan.specs.Runs.{EachAfter, IsLegal, IsRun, had_turn}
use Rattle.msrp_plan.specs.Logs.{core_order}
use Rattle.msrp_plan.specs.Aheads.{carries_its_ahead, carries_ahead}
use Rattle.msrp_plan.specs.declared.ids.JobId.{JobId}
use Rattle.msrp_plan.specs.declared.rows.Kind.TheVariants.{Idle}
use Rattle.msrp_plan.specs.declared.rows.Row.{Row}

-- ---- release
-- the row's job, if it has one, is released by the row's tick
abbrev pub IsOfReleased : PlanModel → List Row → Row → Type 0
IsOfReleased plan pre r = (j : JobId) → r.job ≡ Some j → release plan j ≤ r.tick

-- no job runs before its release
abbrev pub RunsReleased : PlanModel → List Row → Type 0
RunsReleased plan rows = EachAfter (IsOfReleased plan) [] rows

-- ---- work conservation
-- the jobs of the row's core that are released by its tick are finished
abbrev pub AllFinished : PlanModel → List Row → Row → Type 0
AllFinished plan pre r = (j : JobId) → Contains (jobs_on plan r.core.0) j → release plan j ≤ r.tick → is_finished plan pre j ≡ true

-- the row is idle exactly if they are
abbrev pub IdlesLast : PlanModel → List Row → Row → Type 0
IdlesLast plan pre r = (r.kind ≡ Idle) ↔ AllFinished plan pre r

-- a core is idle exactly when it has nothing to do
abbrev pub WorkConservation : PlanModel → List Row → Type 0
WorkConservation plan rows = EachAfter (IdlesLast plan) [] rows

-- ---- earliest deadline first
-- a job of the row's core that is released by its tick, and isn't started
pub record IsReady (plan : PlanModel) (pre : List Row) (r : Row) (j : JobId) : Type 0 where
  pub on : Contains (jobs_on plan r.core.0) j
  pub released : release plan j ≤ r.tick
  pub unstarted : is_started pre j ≡ false

-- the head: the first of the ready jobs
pub record IsHead (plan : PlanModel) (pre : List Row) (r : Row) (h : JobId) : Type 0 where
  pub ready : IsReady plan pre r h
  pub first : (j : JobId) → IsReady plan pre r j → is_before plan j h ≡ false

-- an active job: one of the row's core that is started and unfinished
pub record IsActive (plan : PlanModel) (pre : List Row) (r : Row) (j : JobId) : Type 0 where
  pub on : Contains (jobs_on plan r.core.0) j
  pub started : is_started pre j ≡ true
  pub unfinished : is_finished plan pre j ≡ false

-- job x may start: it comes before all other ready and active jobs, and is above the core's ceiling
pub record MayStart (plan : PlanModel) (pre : List Row) (r : Row) (x : JobId) : Type 0 where
  pub first : (j : JobId) → IsReady plan pre r j → j ≢ x → is_before plan x j ≡ true
  pub preempts : (j : JobId) → IsActive plan pre r j → is_before plan x j ≡ true
  pub above : ceiling plan r.core.0 pre < level plan x.task.0

-- job x may go on: no active job comes before it, and if the head does, it isn't above the ceiling
pub record MayGoOn (plan : PlanModel) (pre : List Row) (r : Row) (x : JobId) : Type 0 where
  pub first : (j : JobId) → IsActive plan pre r j → is_before plan j x ≡ false
  pub blocked : (h : JobId) → IsHead plan pre r h → is_before plan h x ≡ true → level plan h.task.0 ≤ ceiling plan r.core.0 pre

-- the row's job, if it has one, starts and may start, or goes on and may go on
abbrev pub IsOfFirst : PlanModel → List Row → Row → Type 0
IsOfFirst plan pre r = (x : JobId) → r.job ≡ Some x → (is_started pre x ≡ false → MayStart plan pre r x) × (is_started pre x ≡ true → MayGoOn plan pre r x)

-- earliest deadline first under the ceiling (Baker 1991, the Stack Resource Policy)
abbrev pub EarliestDeadlineFirst : PlanModel → List Row → Type 0
EarliestDeadlineFirst plan rows = EachAfter (IsOfFirst plan) [] rows

-- ---- existence
-- the core has a turn left in the tick
pub record IsDueCore (plan : PlanModel) (pre : List Row) (c : ℕ) : Type 0 where
  pub core : c < plan.cores
  pub once : had_turn c (length pre / plan.cores) pre ≡ false

-- the core has a legal row next; if it is a queue row, it carries its ahead
pub record HasNext (plan : PlanModel) (pre : List Row) (c : ℕ) : Type 0 where
  pub row : Row
  pub core : row.core.0 ≡ c
  pub legal : IsLegal plan pre row
  pub carries : carries_its_ahead row ≡ true

-- the core has a turn left after these turns: it has had one in each full round of the cores
pub record IsDueInOrder (plan : PlanModel) (pre : List ℕ) (c : ℕ) : Type 0 where
  pub core : c < plan.cores
  pub turns : count_by (λ d. d == c) pre ≡ length pre / plan.cores

-- an order of turns: each core has one turn in each tick
pub record IsOrder (plan : PlanModel) (order : List ℕ) : Type 0 where
  pub size : length order ≡ plan.cores * plan.ticks
  pub each : EachAfter (IsDueInOrder plan) [] order

-- a legal run in that order whose queue rows carry their aheads, and no other such run
pub record HasOneRun (plan : PlanModel) (order : List ℕ) : Type 0 where
  pub rows : List Row
  pub turns : core_order rows ≡ order
  pub run : IsRun plan rows
  pub carries : carries_ahead rows ≡ true
  pub only : (other : List Row) → core_order other ≡ order → IsRun plan other → carries_ahead other ≡ true → other ≡ rows
