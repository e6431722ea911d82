-- The history of a resource: what all cores did with it, in the order of its ticket word, the
-- oldest first. For Herlihy and Wing (1990), a book is a core's local history, a history that
-- `IsServed` is a linearization of the books to the first-in-first-out lock, and a step's
-- linearization point is its instruction on the ticket word, at its place.
use Rattle.std.specs.Prelude.{◌≡◌, ◌<◌, ◌≤◌, ◌∷◌, ◌==◌, ◌⊎◌, if◌then◌else◌}
use Rattle.msrp_plan.specs.Common.{ℕ, suc, List, [], map, Bool, true, false, count_by, ⊤, Legal}
use Rattle.msrp_board.specs.Common.{Ask, Call, Entry, Leave, Poll}
use Rattle.msrp_board.specs.Words.{high, low}
use Rattle.msrp_board.specs.Books.{on_resource, IsChain}

-- an entry with the number of its core
abbrev pub Event : Type 0
Event = ℕ × Entry

-- the elements with number c, in order
abbrev pub by_core : {X : Type 0} → ℕ → List (ℕ × X) → List X
by_core c [] = []
by_core c (x ∷ xs) = if x.0 == c then x.1 ∷ by_core c xs else by_core c xs

-- the calls of these events, each with its core
abbrev pub calls : List Event → List (ℕ × Call)
calls h = map (λ s. (s.0, s.1.call)) h

-- the call is a request
abbrev pub is_request : Call → Bool
is_request (Ask n) = true
is_request _ = false

-- the call is a poll
abbrev pub is_poll : Call → Bool
is_poll (Poll granted) = true
is_poll _ = false

-- the call is a release
abbrev pub is_release : Call → Bool
is_release Leave = true
is_release _ = false

-- a request and a release take a place, a poll reads one and takes none
abbrev pub place_after : ℕ → Call → ℕ
place_after p (Poll granted) = p
place_after p _ = suc p

-- the place of each event is p and the number of requests and releases before it
abbrev pub Placed : ℕ → List Event → Type 0
Placed p [] = ⊤
Placed p (s ∷ h) = (s.1.place ≡ p) × Placed (place_after p s.1.call) h

-- two adjacent polls, which read the same place, are by tick, then by core
abbrev pub PollsInOrder : Event → Event → Type 0
PollsInOrder s x = is_poll s.1.call ≡ true → is_poll x.1.call ≡ true → (s.1.tick < x.1.tick) ⊎ ((s.1.tick ≡ x.1.tick) × (s.0 ≤ x.0))

-- the first is of no later tick than the second
abbrev pub IsNotLater : Event → Event → Type 0
IsNotLater s x = s.1.tick ≤ x.1.tick

-- h is the history of resource g by these books: it has the entries of each core's book on g, in
-- order; requests and releases are by place, from 0 on, each place once, and a poll directly before
-- the step of the place it read
pub record IsHistory (g : ℕ) (books : ℕ → List Entry) (h : List Event) : Type 0 where
  pub entries : (c : ℕ) → by_core c h ≡ on_resource g (books c)
  pub placed : Placed 0 h
  pub polls : IsChain PollsInOrder h

-- the history fits the word's counts, has a first-in-first-out lock's answers, and ticks never fall
pub record IsServed (word g : ℕ) (books : ℕ → List Entry) (h : List Event) : Type 0 where
  pub history : IsHistory g books h
  pub requests : count_by (λ s. is_request s.1.call) h ≡ high word
  pub releases : count_by (λ s. is_release s.1.call) h ≡ low word
  pub legal : Legal (calls h)
  pub rising : IsChain IsNotLater h

-- the books determine a resource's history uniquely
abbrev pub HistoryIsUnique : Type 0
HistoryIsUnique = (g : ℕ) (books : ℕ → List Entry) (h k : List Event) → IsHistory g books h → IsHistory g books k → h ≡ k
