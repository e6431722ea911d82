-- How the tickets represent the locks of the resources, and what one more call does to them.
use Rattle.std.specs.Prelude.{◌==◌, ◌≡◌, ◌≤◌, ◌+◌, ◌-◌}
use Rattle.msrp_plan.specs.Common.{ℕ, List, Bool, false, slice_index_or, ⊤, claim_with, IsDueCall, FifoLock, Answers, lock_after}
use Rattle.msrp_plan.specs.declared.units.Call.{Call}
use Rattle.msrp_plan.specs.declared.units.Call.TheVariants.{Ask, Poll, Leave}
use Rattle.msrp_plan.specs.declared.units.Phase.{Phase}
use Rattle.msrp_core.specs.declared.port.PortCall.{PortCall}
use Rattle.msrp_sim.specs.Served.{IsClaim, IsTicketed}
use Rattle.msrp_sim.specs.declared.tickets.Queues.{Queues}
use Rattle.msrp_sim.specs.declared.tickets.Tickets.{Tickets}

-- the tickets of a resource; none drawn if there is no such resource
abbrev pub tickets_in : List Tickets → ℕ → Tickets
tickets_in queues g = slice_index_or queues g (record { next = 0; serving = 0 })

-- the tickets of a resource
abbrev pub queue_of : Queues → ℕ → Tickets
queue_of q g = tickets_in q.queues g

-- the newest ticket of a core
abbrev pub ticket_of : Queues → ℕ → ℕ
ticket_of q c = slice_index_or q.tickets c 0

-- the number of drawn tickets that aren't served yet
abbrev pub waiting : Queues → ℕ → ℕ
waiting q g = (queue_of q g).next - (queue_of q g).serving

-- the core's newest ticket is served
abbrev pub is_served : Queues → ℕ → ℕ → Bool
is_served q c g = ticket_of q c == (queue_of q g).serving

-- at most this many tickets of each resource were drawn, and served
abbrev pub AreDrawn : Queues → ℕ → Type 0
AreDrawn q n = (g : ℕ) → ((queue_of q g).next ≤ n) × ((queue_of q g).serving ≤ n)

-- each core holds or awaits what its claim and the locks say, and tickets are the locks'
pub record IsServing (locks : ℕ → FifoLock) (claims : ℕ → Phase) (q : Queues) : Type 0 where
  pub stances : (c : ℕ) → IsClaim locks c (claims c)
  pub tickets : (g : ℕ) → IsTicketed (locks g).queue (queue_of q g).next (queue_of q g).serving (ticket_of q)

-- the call has the answer of the tickets: the number of drawn tickets not served yet; or whether
-- the core's own is served
abbrev pub IsTold : Queues → ℕ → ℕ → Call → Type 0
IsTold q c g (Ask ahead) = ahead ≡ waiting q g
IsTold q c g (Poll granted) = granted ≡ is_served q c g
IsTold q c g Leave = ⊤

-- the call changes the lock of its resource and the claim of its core, and no others
pub record MovesBy (e : PortCall) (locks after : ℕ → FifoLock) (claims newer : ℕ → Phase) : Type 0 where
  pub lock : after e.res.0 ≡ lock_after (locks e.res.0) e.core.0 e.call
  pub other_locks : (g : ℕ) → (e.res.0 == g) ≡ false → after g ≡ locks g
  pub claim : newer e.core.0 ≡ claim_with (claims e.core.0) e.res e.call
  pub other_claims : (c : ℕ) → (e.core.0 == c) ≡ false → newer c ≡ claims c

-- the queues after one more call: for all locks that they represented, they represent the locks
-- after an allowed call with the lock's answer
pub record Notes (e : PortCall) (old new : Queues) : Type 0 where
  pub serving : (locks after : ℕ → FifoLock) (claims newer : ℕ → Phase) → IsServing locks claims old → MovesBy e locks after claims newer → Answers (locks e.res.0) e.core.0 e.call → IsDueCall (claims e.core.0) e.res e.call → IsServing after newer new
  pub drawn : (n : ℕ) → AreDrawn old n → AreDrawn new (n + 1)
