-- A board's entries, the newest first, so that adding one is one step; callers see them oldest
-- first. A definition that ends in `Newest` is that of `Books` or `History`, of the reversed list.
use Rattle.std.specs.Prelude.{◌≡◌, ◌+◌, ◌/◌, ◌<◌, ◌≤◌, ◌∷◌, ◌⊎◌, ◌&&◌, if◌then◌else◌}
use Rattle.msrp_plan.specs.Common.{ℕ, zero, suc, List, [], Bool, true, false, ⊤, AllByRecursion, FifoLock, Answers}
use Rattle.msrp_board.specs.Common.{Ask, Call, Claim, Entry, Holds, Leave, Nothing, Poll, Waits}
use Rattle.std.specs.Bool.{OnTrue}
use Rattle.msrp_plan.specs.FifoLock.{queue_after, granted_after}
use Rattle.msrp_board.specs.History.{Event, is_poll, is_release, is_request}

-- ---- the history of a resource

-- the number of requests
abbrev pub asks : List Event → ℕ
asks [] = 0
asks (r ∷ h) = if is_request r.1.call then suc (asks h) else asks h

-- the number of releases
abbrev pub leaves : List Event → ℕ
leaves [] = 0
leaves (r ∷ h) = if is_release r.1.call then suc (leaves h) else leaves h

-- the cores in the queue after these events
abbrev pub queue : List Event → List ℕ
queue [] = []
queue (r ∷ h) = queue_after (queue h) r.0 r.1.call

-- whether the first of the queue was granted
abbrev pub granted : List Event → Bool
granted [] = false
granted (r ∷ h) = granted_after (granted h) r.1.call

-- the one-thread lock after these events
abbrev pub lock : List Event → FifoLock
lock h = record { queue = queue h; granted = granted h }

-- each call is answered as a first-in-first-out lock answers it
abbrev pub LegalNewest : List Event → Type 0
LegalNewest [] = ⊤
LegalNewest (r ∷ h) = LegalNewest h × Answers (lock h) r.0 r.1.call

-- the place of each entry is the number of steps before it
abbrev pub PlacedNewest : List Event → Type 0
PlacedNewest [] = ⊤
PlacedNewest (r ∷ h) = PlacedNewest h × (r.1.place ≡ asks h + leaves h)

-- no event is of a later tick
abbrev pub NoneLater : ℕ → List Event → Type 0
NoneLater t h = AllByRecursion (λ r. r.1.tick ≤ t) h

-- ticks never fall
abbrev pub RisingNewest : List Event → Type 0
RisingNewest [] = ⊤
RisingNewest (r ∷ h) = RisingNewest h × NoneLater r.1.tick h

-- if r and the event before it are polls, r is of a later tick, or of the same and of no lower core
abbrev pub IsPollAfter : Event → List Event → Type 0
IsPollAfter r [] = ⊤
IsPollAfter r (x ∷ h) = OnTrue (is_poll r.1.call && is_poll x.1.call) ((x.1.tick < r.1.tick) ⊎ ((x.1.tick ≡ r.1.tick) × (x.0 ≤ r.0)))

-- adjacent polls are by tick, then core
abbrev pub PollsNewest : List Event → Type 0
PollsNewest [] = ⊤
PollsNewest (r ∷ h) = PollsNewest h × IsPollAfter r h

-- ---- the book of a core

-- the ticket of a request at this place with this many ahead: with n requests and r releases before
-- it the place is n + r, n - r are ahead, and its ticket is n
abbrev pub ticket_at : ℕ → ℕ → ℕ
ticket_at place ahead = (place + ahead) / 2

-- the ticket of the claim, 0 if there is none
abbrev pub ticket_of : Claim → ℕ
ticket_of Nothing = 0
ticket_of (Waits g ticket) = ticket
ticket_of (Holds g ticket) = ticket

-- what a core claims after one more call, at place p
abbrev pub claim_with_call : Claim → ℕ → ℕ → Call → Claim
claim_with_call l g p (Ask zero) = Holds g (ticket_at p 0)
claim_with_call l g p (Ask (suc a)) = Waits g (ticket_at p (suc a))
claim_with_call l g p (Poll true) = Holds g (ticket_of l)
claim_with_call l g p (Poll false) = l
claim_with_call l g p Leave = Nothing

-- what a core claims after these entries
abbrev pub claim_of : List Entry → Claim
claim_of [] = Nothing
claim_of (e ∷ es) = claim_with_call (claim_of es) e.res.0 e.place e.call

-- a core with this claim may make this call
abbrev pub IsClaimInTurn : Claim → ℕ → Call → Type 0
IsClaimInTurn l g (Ask a) = l ≡ Nothing
IsClaimInTurn l g (Poll p) = (t : ℕ) × (l ≡ Waits g t)
IsClaimInTurn l g Leave = (t : ℕ) × (l ≡ Holds g t)

-- each call was allowed when it was made
abbrev pub IsRegularNewest : List Entry → Type 0
IsRegularNewest [] = ⊤
IsRegularNewest (e ∷ es) = IsRegularNewest es × IsClaimInTurn (claim_of es) e.res.0 e.call

-- the ticks of these entries fall from below r on
abbrev pub TicksNewest : ℕ → List Entry → Type 0
TicksNewest r [] = ⊤
TicksNewest r (e ∷ es) = (e.tick < r) × TicksNewest e.tick es
