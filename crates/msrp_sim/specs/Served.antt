-- Calls that are served first-in-first-out, and the tickets that do it.
use Rattle.std.specs.Prelude.{◌==◌, ◌≡◌, ◌+◌, if◌then◌else◌}
use Rattle.msrp_plan.specs.Common.{ℕ, List, [], true, false, nat_lt, Some, length, slice_get, slice_index_or, PlanModel, FifoLock, free_lock, Legal}
use Rattle.msrp_plan.specs.declared.units.Phase.{Phase}
use Rattle.msrp_plan.specs.declared.units.Phase.TheVariants.{Free, Queued, Holding}
use Rattle.msrp_plan.specs.FifoLock.{IsAmong, IsFirst}
use Rattle.msrp_plan.specs.LockStates.{lock_from}
use Rattle.msrp_core.specs.Ports.{PortModel, calls_on}
use Rattle.msrp_core.specs.declared.port.PortCall.{PortCall}

-- the calls of each resource are answered as the one-thread lock answers them
abbrev pub AreFifo : List PortCall → Type 0
AreFifo calls = (g : ℕ) → Legal (calls_on g calls)

-- the lock of a resource after these calls
abbrev pub lock_after_calls : List PortCall → ℕ → FifoLock
lock_after_calls calls g = lock_from free_lock (calls_on g calls)

-- a port that serves requests in their order: the calls so far, each core's room for more, by
-- number, and the number of resources
pub record FifoModel : Type 0 where
  pub calls : List PortCall
  pub rooms : List ℕ
  pub resources : ℕ

-- such a port as any port
abbrev pub as_port : FifoModel → PortModel
as_port p = record { calls = p.calls; rooms = λ c. slice_index_or p.rooms c 0; resources = p.resources }

-- it has no call yet, and each core of the plan may make a call in each tick
pub record IsFresh (plan : PlanModel) (port : FifoModel) : Type 0 where
  pub calls : port.calls ≡ []
  pub rooms : (c : ℕ) → (as_port port).rooms c ≡ (if nat_lt c plan.cores then plan.ticks else 0)
  pub resources : port.resources ≡ length plan.resources

-- a core's relation to one resource
pub data Stance : Type 0 where
  Out : Stance
  Waits : Stance
  Holds : Stance

-- what a lock says of such a core: it isn't in the queue; it is, and isn't granted yet even if it
-- is first; it is first and granted
abbrev pub IsStance : FifoLock → ℕ → Stance → Type 0
IsStance lock c Out = ¬ IsAmong lock.queue c
IsStance lock c Waits = IsAmong lock.queue c × (IsFirst lock.queue c → lock.granted ≡ false)
IsStance lock c Holds = IsFirst lock.queue c × (lock.granted ≡ true)

-- the relation to a resource of a core with this claim
abbrev pub stance_of : ℕ → Phase → Stance
stance_of g Free = Out
stance_of g (Queued h) = if h.0 == g then Waits else Out
stance_of g (Holding h) = if h.0 == g then Holds else Out

-- what a core holds or awaits is what the locks say of it
abbrev pub IsClaim : (ℕ → FifoLock) → ℕ → Phase → Type 0
IsClaim locks c claim = (g : ℕ) → IsStance (locks g) c (stance_of g claim)

-- a resource's tickets are in request order: the next one is as far ahead of the served one as the
-- queue is long, and each core in the queue has the ticket of its place
pub record IsTicketed (queue : List ℕ) (next serving : ℕ) (ticket : ℕ → ℕ) : Type 0 where
  pub size : next ≡ serving + length queue
  pub place : (i c : ℕ) → slice_get queue i ≡ Some c → ticket c ≡ serving + i
