-- The cores of a plan over first-in-first-out queues, and the rows that they stand for.
use Rattle.msrp_plan.specs.Common.{ℕ, List, [], true, Option, Some, None, IfSome, length, slice_get, slice_set, ForSome, PlanModel, is_global, carries_its_ahead, most_rows, IsCoreTurn, IsRunStart, IsLegal, log_of, IsDueCore, FifoLock, free_lock, in_tick, IsPlan}
use Rattle.msrp_plan.specs.declared.rows.Row.{Row}
use Rattle.msrp_plan.specs.declared.units.Phase.{Phase}
use Rattle.std.specs.Prelude.{◌∷◌, ◌++◌, ◌≡◌, ◌≢◌, ◌<◌, ◌≤◌, ◌*◌, if◌then◌else◌, sum_by}
use Rattle.msrp_plan.specs.LockStates.{lock_at}
use Rattle.msrp_plan.specs.Phases.{phase_after}
use Rattle.msrp_core.specs.Machine.{MachineModel, StandsAfter, next_known}
use Rattle.msrp_core.specs.declared.port.PortCall.{PortCall}
use Rattle.msrp_sim.specs.Serving.{AreDrawn, IsServing, Notes}
use Rattle.msrp_sim.specs.TurnPorts.{HasTurned}
use Rattle.msrp_sim.specs.declared.tickets.Queues.{Queues}

-- the machines of the cores, by number, and the queues of the resources
pub record CoresModel : Type 0 where
  pub plan : PlanModel
  pub machines : List MachineModel
  pub queues : Queues

-- the machine is that of the core, and stands after some log
pub record IsMachineOf (plan : PlanModel) (c : ℕ) (x : MachineModel) : Type 0 where
  pub same_plan : x.plan ≡ plan
  pub core : x.core ≡ c
  pub log : List Row
  pub stands : StandsAfter x log
  pub left : x.tick ≤ plan.ticks

-- a machine for each core of an accepted plan, with at most one ticket drawn in each of its ticks
pub record AreCores (m : CoresModel) : Type 0 where
  pub accepted : IsPlan m.plan
  pub size : length m.machines ≡ m.plan.cores
  pub each : (c : ℕ) (x : MachineModel) → slice_get m.machines c ≡ Some x → IsMachineOf m.plan c x
  pub drawn : AreDrawn m.queues (sum_by (λ x. x.tick) m.machines)

-- the lock of each resource after the rows; a local resource has none, and stays free
abbrev pub locks_at : PlanModel → List Row → ℕ → FifoLock
locks_at plan rows g = if is_global plan g then lock_at plan g rows else free_lock

-- what each core holds or awaits after the rows
abbrev pub phases_at : List Row → ℕ → Phase
phases_at rows c = phase_after (log_of c rows)

-- the cores' state after the start of a legal run: each machine stands after its core's log, and
-- the tickets of each resource are those of its lock after the rows
pub record StandFor (m : CoresModel) (rows : List Row) : Type 0 where
  pub start : IsRunStart m.plan rows
  pub logs : (c : ℕ) (x : MachineModel) → slice_get m.machines c ≡ Some x → StandsAfter x (log_of c rows)
  pub serving : IsServing (locks_at m.plan rows) (phases_at rows) m.queues

-- the core has a turn left in the tick after the rows, and rows are left
pub record IsDueInRun (plan : PlanModel) (rows : List Row) (c : ℕ) : Type 0 where
  pub turn : IsDueCore plan rows c
  pub left : length rows < plan.cores * plan.ticks

-- the row is the next one of the core, and carries its ahead
pub record IsNextRow (plan : PlanModel) (rows : List Row) (c : ℕ) (r : Row) : Type 0 where
  pub core : r.core.0 ≡ c
  pub legal : IsLegal plan rows r
  pub carries : carries_its_ahead r ≡ true

-- after some log the row is core c's next one, in a tick of the plan, and carries a possible ahead
pub record IsSomeTurn (plan : PlanModel) (c : ℕ) (r : Row) : Type 0 where
  pub log : List Row
  pub turn : IsCoreTurn plan c log r
  pub left : r.tick < plan.ticks
  pub ahead : IfSome r.ahead (λ n. n ≤ most_rows)
  pub carries : carries_its_ahead r ≡ true

-- the other row, perhaps without its ahead
pub record IsAs (due r : Row) : Type 0 where
  pub core : r.core.0 ≡ due.core.0
  pub kind : r.kind ≡ due.kind
  pub job : r.job ≡ due.job
  pub res : r.res ≡ due.res
  pub ahead : IfSome r.ahead (λ n. due.ahead ≡ Some n)

-- after any rows that the cores stand for, with a turn left for the core, this is its next row
abbrev pub MakesNext : CoresModel → ℕ → Row → Type 0
MakesNext m c r = (rows : List Row) → StandFor m rows → IsDueInRun m.plan rows c → IsNextRow m.plan rows c r

-- the new cores stand for all such rows of the old ones, with a legal row added that is as this one
abbrev pub StandOn : CoresModel → CoresModel → ℕ → Row → Type 0
StandOn old new c r = (rows : List Row) (row : Row) → StandFor old rows → IsDueInRun old.plan rows c → IsAs r row → IsLegal old.plan rows row → StandFor new (rows ++ row ∷ [])

-- ---- a row that repeats
abbrev pub again_of : Option MachineModel → Option Row
again_of None = None
again_of (Some x) = next_known x

-- the known next row of a core, unless it is a poll that is granted
abbrev pub known_row : CoresModel → ℕ → Option Row
known_row m c = again_of (slice_get m.machines c)

-- the core of the row had its turn: if its next row is known, it is this one in another tick; what
-- is known of the other cores stays
pub record Leaves (old new : CoresModel) (r : Row) : Type 0 where
  pub own : IfSome (known_row new r.core.0) (λ next. next ≡ in_tick next.tick r)
  pub others : (c : ℕ) → c ≢ r.core.0 → known_row new c ≡ known_row old c

-- ---- before the first turn, and one more turn
-- a machine before its first turn
pub record IsNew (plan : PlanModel) (c : ℕ) (x : MachineModel) : Type 0 where
  pub plan_is : x.plan ≡ plan
  pub core : x.core ≡ c
  pub stands : StandsAfter x []
  pub known : next_known x ≡ None

-- the machines of the first n cores, in order, before their first turns
pub record AreNew (plan : PlanModel) (n : ℕ) (machines : List MachineModel) : Type 0 where
  pub size : length machines ≡ n
  pub each : (c : ℕ) (x : MachineModel) → slice_get machines c ≡ Some x → IsNew plan c x

-- one turn of a core, by its machine and these queues, and its call, if it makes one
pub record MakesTurn (old : CoresModel) (c : ℕ) (r : Row) : Type 0 where
  pub before : MachineModel
  pub after : MachineModel
  pub call : Option PortCall
  pub has : slice_get old.machines c ≡ Some before
  pub turned : HasTurned old.queues before after r call

-- its machine goes one tick on, and the call goes into the queues
pub record TakesTurn (old new : CoresModel) (c : ℕ) (r : Row) : Type 0 where
  pub plan : new.plan ≡ old.plan
  pub made : MakesTurn old c r
  pub machines : new.machines ≡ slice_set old.machines c made.after
  pub same : made.call ≡ None → new.queues ≡ old.queues
  pub noted : ForSome made.call (λ e. Notes e old.queues new.queues)
