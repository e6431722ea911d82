-- Boards of two cores and one resource that violate one line of the rule each, mostly opened.
use Rattle.std.specs.Prelude.{◌∷◌}
use Rattle.msrp_plan.specs.Common.{ℕ, List, [], true, false, replicate}
use Rattle.msrp_board.specs.Common.{Aborted, Ask, BoardSize, Book, Call, Entry, Leave, Opened, Poll}
use Rattle.msrp_board.specs.Boards.{WholeBoard}
use Rattle.msrp_board.specs.Words.{ticket_word}
use Rattle.msrp_board.specs.Seats.{empty_book}
use Rattle.msrp_board.specs.Steps.{book_with_stop}

-- two cores, one resource, four ticks
abbrev pub size : BoardSize
size = record { cores = 2; resources = 1; ticks = 4 }

-- these numbers of requests and releases, and of arrivals plus the opening
abbrev board : ℕ → ℕ → ℕ → List Book → WholeBoard
board requests releases arrivals books = record {
  size = size;
  tickets = ticket_word requests releases ∷ [];
  barrier = arrivals;
  books = books;
  conductor = Opened;
}

-- the book of a core that is let into a tick
abbrev in_tick : ℕ → List Entry → Book
in_tick tick entries = record { entries = entries; tick = tick; admitted = true; stopped = false }

-- a step in a tick, at a place
abbrev pub step : ℕ → ℕ → Call → Entry
step tick place call = record { tick = tick; res = record { 0 = 0 }; place = place; call = call }

-- core 1 has no book
abbrev pub lost_book : WholeBoard
lost_book = board 0 0 1 (empty_book ∷ [])

-- both requests found place 0
abbrev pub shared_ticket : WholeBoard
shared_ticket = board 2 0 1 (in_tick 0 (step 0 0 (Ask 0) ∷ []) ∷ in_tick 0 (step 0 0 (Ask 1) ∷ []) ∷ [])

-- one release is counted as two
abbrev pub counted_twice : WholeBoard
counted_twice = board 1 2 3 (in_tick 1 (step 0 0 (Ask 0) ∷ step 1 1 Leave ∷ []) ∷ in_tick 1 [] ∷ [])

-- both requests have the answer that none is ahead
abbrev pub two_holders : WholeBoard
two_holders = board 2 0 1 (in_tick 0 (step 0 0 (Ask 0) ∷ []) ∷ in_tick 0 (step 0 1 (Ask 0) ∷ []) ∷ [])

-- core 1 is granted what core 0 holds
abbrev pub invented_grant : WholeBoard
invented_grant = board 2 0 3 (in_tick 1 (step 0 0 (Ask 0) ∷ []) ∷ in_tick 1 (step 0 1 (Ask 1) ∷ step 1 2 (Poll true) ∷ []) ∷ [])

-- core 1's poll in tick 2 has the answer from before core 0's release in tick 1
abbrev pub old_poll : WholeBoard
old_poll = board 2 1 5 (in_tick 2 (step 0 0 (Ask 0) ∷ step 1 2 Leave ∷ []) ∷ in_tick 2 (step 0 1 (Ask 1) ∷ step 2 2 (Poll false) ∷ []) ∷ [])

-- core 0 acted twice in tick 0
abbrev pub acted_twice : WholeBoard
acted_twice = board 1 1 1 (in_tick 0 (step 0 0 (Ask 0) ∷ step 0 1 Leave ∷ []) ∷ in_tick 0 [] ∷ [])

-- two cores arrived from tick 0, and one arrival is counted
abbrev pub lost_arrival : WholeBoard
lost_arrival = board 0 0 2 (in_tick 1 [] ∷ in_tick 1 [] ∷ [])

-- core 0 saw a stop
abbrev pub invented_stop : WholeBoard
invented_stop = board 0 0 1 (book_with_stop empty_book ∷ empty_book ∷ [])

-- core 0 is let into tick 1, and core 1 is in tick 0
abbrev pub early : WholeBoard
early = board 0 0 2 (in_tick 1 [] ∷ in_tick 0 [] ∷ [])

-- a word of resource 1
abbrev pub second_word : WholeBoard
second_word = record (board 0 0 1 (empty_book ∷ empty_book ∷ [])) { tickets = ticket_word 0 0 ∷ ticket_word 0 0 ∷ [] }

-- a board of nine cores, one more than a plan may have
abbrev pub nine_cores : WholeBoard
nine_cores = record (board 0 0 1 (replicate 9 empty_book)) { size = record size { cores = 9 } }

-- the conductor called the run off, and the barrier word doesn't count it
abbrev pub lost_abort : WholeBoard
lost_abort = record (board 0 0 0 (empty_book ∷ empty_book ∷ [])) { conductor = Aborted }

-- ---- books
-- the core is let into tick 4
abbrev pub late : Book
late = in_tick 4 []

-- a request of resource 1
abbrev pub undeclared : Book
undeclared = in_tick 0 (record (step 0 0 (Ask 0)) { res = record { 0 = 1 } } ∷ [])

-- the core releases at the place of its request
abbrev pub same_place : Book
same_place = in_tick 1 (step 0 1 (Ask 0) ∷ step 1 1 Leave ∷ [])

-- the core polls what it didn't request
abbrev pub unasked : Book
unasked = in_tick 0 (step 0 0 (Poll true) ∷ [])
