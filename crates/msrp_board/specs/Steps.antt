-- What each step of a board does to the seat that makes it.
use Rattle.std.specs.Prelude.{◌≡◌, ◌∷◌, ◌++◌}
use Rattle.msrp_plan.specs.Common.{ℕ, zero, suc, List, [], true, false, map, Some, None}
use Rattle.msrp_board.specs.Common.{Book, Call, Conductor, Option, ResId, option_map}
use Rattle.msrp_board.specs.Books.{on_resource, AreBefore}
use Rattle.msrp_board.specs.Seats.{SeatModel, book_at}

-- ---- a request, a poll, a release

-- the books of the seat, each changed by f
abbrev pub with_books : (Book → Book) → SeatModel → SeatModel
with_books f seat = record { board = seat.board; books = map (option_map f) seat.books; conductor = seat.conductor }

-- the book with one more entry: its present tick, the resource, the place, the answered call
abbrev pub book_with_entry : ResId → ℕ → Call → Book → Book
book_with_entry g place call b = record { entries = b.entries ++ record { tick = b.tick; res = g; place = place; call = call } ∷ []; tick = b.tick; admitted = b.admitted; stopped = b.stopped }

-- a core's seat with one more entry in its book
abbrev pub with_entry : ResId → ℕ → Call → SeatModel → SeatModel
with_entry g place call seat = with_books (book_with_entry g place call) seat

-- the place is after all that the seat's books have of resource g
abbrev pub IsBehind : ℕ → ℕ → SeatModel → Type 0
IsBehind g place seat = (c : ℕ) (b : Book) → book_at seat c ≡ Some b → AreBefore place (on_resource g b.entries)

-- ---- the barrier

-- the book of a core that is let into its tick
abbrev pub book_with_admission : Book → Book
book_with_admission b = record { entries = b.entries; tick = b.tick; admitted = true; stopped = b.stopped }

-- the core is let into its tick
abbrev pub with_admission : SeatModel → SeatModel
with_admission seat = with_books book_with_admission seat

-- the book of a core that saw the stop
abbrev pub book_with_stop : Book → Book
book_with_stop b = record { entries = b.entries; tick = b.tick; admitted = b.admitted; stopped = true }

-- the core saw the stop
abbrev pub with_stop : SeatModel → SeatModel
with_stop seat = with_books book_with_stop seat

-- the book of a core that has arrived from its tick
abbrev pub book_with_arrival : Book → Book
book_with_arrival b = record { entries = b.entries; tick = suc b.tick; admitted = false; stopped = b.stopped }

-- the core has arrived from its tick
abbrev pub with_arrival : SeatModel → SeatModel
with_arrival seat = with_books book_with_arrival seat

-- the conductor did this
abbrev pub with_conductor : Conductor → SeatModel → SeatModel
with_conductor o seat = record { board = seat.board; books = seat.books; conductor = Some o }

-- ---- a split and a join

-- the element at place c alone
abbrev pub only_at : {X : Type 0} → ℕ → List (Option X) → List (Option X)
only_at c [] = []
only_at zero (x ∷ xs) = x ∷ []
only_at (suc c) (x ∷ xs) = None ∷ only_at c xs

-- the elements at other places than c
abbrev pub none_at : {X : Type 0} → ℕ → List (Option X) → List (Option X)
none_at c [] = []
none_at zero (x ∷ xs) = None ∷ xs
none_at (suc c) (x ∷ xs) = x ∷ none_at c xs

-- the first if there is one, otherwise the second
abbrev pub either : {X : Type 0} → Option X → Option X → Option X
either None y = y
either (Some x) y = Some x

-- at each place what one of the two lists has there
abbrev pub together : {X : Type 0} → List (Option X) → List (Option X) → List (Option X)
together [] ys = ys
together (x ∷ xs) [] = x ∷ xs
together (x ∷ xs) (y ∷ ys) = either x y ∷ together xs ys

-- the book of core c alone
abbrev pub alone : ℕ → SeatModel → SeatModel
alone c seat = record { board = seat.board; books = only_at c seat.books; conductor = None }

-- the seat's books but that of core c
abbrev pub without : ℕ → SeatModel → SeatModel
without c seat = record { board = seat.board; books = none_at c seat.books; conductor = seat.conductor }

-- the books of both seats
abbrev pub both : SeatModel → SeatModel → SeatModel
both seat other = record { board = seat.board; books = together seat.books other.books; conductor = either seat.conductor other.conductor }
