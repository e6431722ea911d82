-- A first-in-first-out lock on one thread: what each call answers, and which histories are legal.
-- The board, a port and the merge all use this one lock. The oldest call is first.
use Rattle.std.specs.Prelude.{ℕ, zero, suc, List, [], ◌∷◌, ◌++◌, length, Bool, true, false, ◌⊎◌, ◌≡◌, ⊤}
use Rattle.msrp_plan.specs.declared.units.Call.{Call}
use Rattle.msrp_plan.specs.declared.units.Call.TheVariants.{Ask, Poll, Leave}

-- the cores that requested and haven't released it, in order, and whether the first is granted
pub record FifoLock : Type 0 where
  pub queue : List ℕ
  pub granted : Bool

-- a lock that nobody has requested
abbrev pub free_lock : FifoLock
free_lock = record { queue = []; granted = false }

-- the core is in the queue
abbrev pub IsAmong : List ℕ → ℕ → Type 0
IsAmong [] c = ⊥
IsAmong (d ∷ q) c = (d ≡ c) ⊎ IsAmong q c

-- the core is the first in the queue
abbrev pub IsFirst : List ℕ → ℕ → Type 0
IsFirst [] c = ⊥
IsFirst (d ∷ q) c = d ≡ c

-- the core may make the call, and the lock answers so: a request learns how many are ahead, a poll
-- whether the core is first; only the core that was granted the lock may release it
abbrev pub Answers : FifoLock → ℕ → Call → Type 0
Answers lock c (Ask ahead) = ¬ IsAmong lock.queue c × (ahead ≡ length lock.queue)
Answers lock c (Poll true) = IsFirst lock.queue c × (lock.granted ≡ false)
Answers lock c (Poll false) = IsAmong lock.queue c × ¬ IsFirst lock.queue c
Answers lock c Leave = IsFirst lock.queue c × (lock.granted ≡ true)

-- the queue after its first has left
abbrev pub without_first : List ℕ → List ℕ
without_first [] = []
without_first (c ∷ q) = q

-- a request joins the end of the queue, and a release takes the first away
abbrev pub queue_after : List ℕ → ℕ → Call → List ℕ
queue_after q c (Ask ahead) = q ++ c ∷ []
queue_after q c (Poll granted) = q
queue_after q c Leave = without_first q

-- a request with nobody ahead is granted, and so is a poll that is answered yes
abbrev pub granted_after : Bool → Call → Bool
granted_after g (Ask zero) = true
granted_after g (Ask (suc n)) = g
granted_after g (Poll true) = true
granted_after g (Poll false) = g
granted_after g Leave = false

-- the lock after a call
abbrev pub lock_after : FifoLock → ℕ → Call → FifoLock
lock_after lock c call = record { queue = queue_after lock.queue c call; granted = granted_after lock.granted call }

-- the calls, each with its core, are answered as the lock answers them
abbrev pub LegalFrom : FifoLock → List (ℕ × Call) → Type 0
LegalFrom lock [] = ⊤
LegalFrom lock (s ∷ h) = Answers lock s.0 s.1 × LegalFrom (lock_after lock s.0 s.1) h

-- a history of calls that a free lock answers so
abbrev pub Legal : List (ℕ × Call) → Type 0
Legal history = LegalFrom free_lock history
