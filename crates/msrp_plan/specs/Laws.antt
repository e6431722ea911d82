-- What holds of every start of a legal run, for every plan and every order of the cores.
use Rattle.std.specs.Prelude.{ℕ, List, [], ◌∷◌, ◌++◌, Bool, true, false, ◌&&◌, Some, count_by, length, ◌≡◌, ◌≢◌, ◌≤◌, ◌-◌}
use Rattle.std.specs.List.{list_any}
use Rattle.msrp_plan.specs.Plan.{PlanModel}
use Rattle.msrp_plan.specs.Jobs.{is_row_of, holds}
use Rattle.msrp_plan.specs.Queues.{is_on, fifo}
use Rattle.msrp_plan.specs.Runs.{EachAfter, IsRun}
use Rattle.msrp_plan.specs.WellFormed.{IsPlan}
use Rattle.msrp_plan.specs.Bounds.{spin_bound}
use Rattle.msrp_plan.specs.Blocking.{BoundedBlocking}
use Rattle.msrp_plan.specs.Scheduling.{RunsReleased, WorkConservation, EarliestDeadlineFirst}
use Rattle.msrp_plan.specs.declared.ids.JobId.{JobId}
use Rattle.msrp_plan.specs.declared.ids.ResId.{ResId}
use Rattle.msrp_plan.specs.declared.rows.Kind.{Kind}
use Rattle.msrp_plan.specs.declared.rows.Kind.TheVariants.{Lock, Take, Queue, Grant, Spin}
use Rattle.msrp_plan.specs.declared.rows.Row.{Row}

-- ---- no local blocking
-- the row, if it locks a local resource, locks one that no other job of any core holds
abbrev pub LocksFree : PlanModel → List Row → Row → Type 0
LocksFree plan pre r = (g : ResId) (j : JobId) → r.kind ≡ Lock → r.res ≡ Some g → r.job ≢ Some j → holds plan pre g.0 j ≡ false

-- no job that runs ever waits for a local resource (Baker 1991: a started job isn't blocked)
abbrev pub NoLocalBlocking : PlanModel → List Row → Type 0
NoLocalBlocking plan rows = EachAfter (LocksFree plan) [] rows

-- ---- mutual exclusion
-- after these rows at most one job holds the resource
abbrev pub IsHeldByOne : PlanModel → List Row → ℕ → Type 0
IsHeldByOne plan pre g = (i j : JobId) → holds plan pre g i ≡ true → holds plan pre g j ≡ true → i ≡ j

-- at each place of the run at most one job holds each resource, global or local
abbrev pub MutualExclusion : PlanModel → List Row → Type 0
MutualExclusion plan rows = (pre post : List Row) (g : ℕ) → rows ≡ pre ++ post → IsHeldByOne plan pre g

-- ---- bounded overtaking
abbrev pub is_acquiring : Kind → Bool
is_acquiring Take = true
is_acquiring Grant = true
is_acquiring _ = false

-- a row in which a job acquires the resource, at once or after a wait
abbrev pub is_acquisition : ℕ → Row → Bool
is_acquisition g r = is_on g r.res && is_acquiring r.kind

-- a row in which a wait ends
abbrev pub is_grant : Kind → Bool
is_grant Grant = true
is_grant _ = false

-- the row in which the job is granted the resource after a wait
abbrev pub is_grant_of : JobId → ℕ → Row → Bool
is_grant_of j g r = is_row_of j r && (is_on g r.res && is_grant r.kind)

-- a row in which a job polls unsuccessfully
abbrev pub is_spin : Kind → Bool
is_spin Spin = true
is_spin _ = false

-- a row in which the job polls and isn't granted
abbrev pub is_spin_of : JobId → Row → Bool
is_spin_of j r = is_row_of j r && is_spin r.kind

-- a wait: in row r job j joins the queue of the resource, and none of the rows since grants it
pub record IsWait (r : Row) (since : List Row) (j : JobId) (g : ℕ) : Type 0 where
  pub job : r.job ≡ Some j
  pub resource : is_on g r.res ≡ true
  pub joins : r.kind ≡ Queue
  pub waits : list_any (is_grant_of j g) since ≡ false

-- this holds of each wait: of the row that begins it, the rows since, the job and the resource
abbrev pub EachWait : List Row → (Row → List Row → JobId → ℕ → Type 0) → Type 0
EachWait rows P = (pre : List Row) (r : Row) (since post : List Row) (j : JobId) (g : ℕ) → rows ≡ pre ++ r ∷ (since ++ post) → IsWait r since j g → P r since j g

-- while a job waits for a global resource, others acquire it at most m - 1 times, on m cores (Gai,
-- Lipari and Di Natale 2001: requests are granted in their order, and each core has at most one)
abbrev pub BoundedOvertaking : PlanModel → List Row → Type 0
BoundedOvertaking plan rows = EachWait rows (λ r since j g. count_by (is_acquisition g) since ≤ plan.cores - 1)

-- ---- short queues
-- the row, if it joins the queue of a resource, finds there at most one request for each other core
abbrev pub FindsShort : PlanModel → List Row → Row → Type 0
FindsShort plan pre r = (g : ℕ) → r.kind ≡ Queue → is_on g r.res ≡ true → length (fifo g pre) ≤ plan.cores - 1

-- no job joins a queue longer than m - 1, on m cores (Gai, Lipari and Di Natale 2001)
abbrev pub ShortQueues : PlanModel → List Row → Type 0
ShortQueues plan rows = EachAfter (FindsShort plan) [] rows

-- ---- bounded spinning
-- in one wait for a global resource a job spins at most as often as its core's bound: all spins of
-- the job count, since it spins on nothing else then
abbrev pub BoundedSpinning : PlanModel → List Row → Type 0
BoundedSpinning plan rows = EachWait rows (λ r since j g. count_by (is_spin_of j) since ≤ spin_bound plan g r.core.0)

-- ---- all of them
-- a legal run of a well-formed plan, and what the laws say of it
pub record KeepsLaws (plan : PlanModel) (rows : List Row) : Type 0 where
  pub well_formed : IsPlan plan
  pub run : IsRun plan rows
  pub blocking : NoLocalBlocking plan rows
  pub exclusion : MutualExclusion plan rows
  pub overtaking : BoundedOvertaking plan rows
  pub queues : ShortQueues plan rows
  pub spinning : BoundedSpinning plan rows
  pub blocking_bound : BoundedBlocking plan rows
  pub released : RunsReleased plan rows
  pub conservation : WorkConservation plan rows
  pub deadlines : EarliestDeadlineFirst plan rows
