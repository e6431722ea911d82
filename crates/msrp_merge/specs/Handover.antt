-- A worked merge: the logs of two cores, one of which hands a resource to the other, with the
-- board's places, the books that they fit, and the resource's history.
use Rattle.std.specs.Prelude.{◌∷◌}
use Rattle.msrp_plan.specs.Common.{ℕ, List, [], true, false, Some, None}
use Rattle.msrp_merge.specs.Common.{Entry, Event, JobId, Row, Turn}
use Rattle.msrp_plan.specs.declared.units.Call.{Call}
use Rattle.msrp_plan.specs.declared.units.Call.TheVariants.{Ask, Poll, Leave}
use Rattle.msrp_plan.specs.Examples.Notation.{job, idle, run, take, queue, spin, grant, release}
use Rattle.msrp_board.specs.declared.books.Book.{Book}
use Rattle.msrp_merge.specs.Turns.{LogModel}

abbrev a : JobId
a = job 0 0

abbrev b : JobId
b = job 1 0

-- a turn on no global resource, a request or release at a place, and a poll that read one
abbrev pub quiet : Row → Turn
quiet r = record { row = r; place = None }

abbrev pub at : ℕ → Row → Turn
at n r = record { row = r; place = Some (record { number = n; polled = false }) }

abbrev pub reads : ℕ → Row → Turn
reads n r = record { row = r; place = Some (record { number = n; polled = true }) }

-- the logs of both cores
abbrev pub logs : List LogModel
logs =
    record {
      core = 0;
      ticks = 6;
      turns = at 0 (take 0 0 a 0) ∷ quiet (run 1 0 a) ∷ at 2 (release 2 0 a 0) ∷ quiet (idle 3 0) ∷ quiet (idle 4 0) ∷ quiet (idle 5 0) ∷ [];
    }
    ∷ record {
      core = 1;
      ticks = 6;
      turns = at 1 (queue 0 1 b 0) ∷ reads 2 (spin 1 1 b 0) ∷ reads 2 (spin 2 1 b 0) ∷ reads 3 (grant 3 1 b 0) ∷ quiet (run 4 1 b) ∷ at 3 (release 5 1 b 0) ∷ [];
    }
    ∷ []

abbrev step : ℕ → ℕ → Call → Entry
step tick place call = record { tick = tick; res = record { 0 = 0 }; place = place; call = call }

abbrev book_of : List Entry → Book
book_of entries = record { entries = entries; tick = 6; admitted = false; stopped = false }

-- the books of both cores
abbrev pub books : List Book
books =
    book_of (step 0 0 (Ask 0) ∷ step 2 2 Leave ∷ [])
    ∷ book_of (step 0 1 (Ask 1) ∷ step 1 2 (Poll false) ∷ step 2 2 (Poll false) ∷ step 3 3 (Poll true) ∷ step 5 3 Leave ∷ [])
    ∷ []

-- a poll that read a place is before the step that took it, whatever their cores
abbrev pub history : List Event
history =
    (0, step 0 0 (Ask 0))
    ∷ (1, step 0 1 (Ask 1))
    ∷ (1, step 1 2 (Poll false))
    ∷ (1, step 2 2 (Poll false))
    ∷ (0, step 2 2 Leave)
    ∷ (1, step 3 3 (Poll true))
    ∷ (1, step 5 3 Leave)
    ∷ []
