-- What callers see of a board and a seat, what holds of every seat, and what each call requires.
use Rattle.std.specs.Prelude.{◌≡◌, ◌<◌, ◌⊎◌}
use Rattle.msrp_plan.specs.Common.{ℕ, List, [], false, replicate, Some, None, IsSome, slice_index_or}
use Rattle.msrp_board.specs.Common.{Admitted, BoardSize, Book, Conductor, Option, Phase, SeatPhase, TableId, Unopened}
use Rattle.msrp_board.specs.Books.{IsSize, lock_of, has_acted, phase_in, IsKept}

-- the identity of a board, and its size
pub record BoardModel : Type 0 where
  pub table : TableId
  pub size : BoardSize

-- a seat of a board has the books of some cores, by number, and perhaps the conductor's
pub record SeatModel : Type 0 where
  pub board : BoardModel
  pub books : List (Option Book)
  pub conductor : Option Conductor

-- the book of core c, if the seat has it
abbrev pub book_at : SeatModel → ℕ → Option Book
book_at seat c = slice_index_or seat.books c None

-- what holds of every seat: its books are of the board's cores, and each obeys its part of the rule
pub record IsSeat (seat : SeatModel) : Type 0 where
  pub limits : IsSize seat.board.size
  pub cores : (c : ℕ) (b : Book) → book_at seat c ≡ Some b → c < seat.board.size.cores
  pub kept : (c : ℕ) (b : Book) → book_at seat c ≡ Some b → IsKept seat.board.size b

-- the book of a core that has done nothing yet: it waits for tick 0
abbrev pub empty_book : Book
empty_book = record { entries = []; tick = 0; admitted = false; stopped = false }

-- the first seat of a board: an empty book for each core, and the conductor's
abbrev pub first_seat : BoardModel → SeatModel
first_seat board = record { board = board; books = replicate board.size.cores (Some empty_book); conductor = Some Unopened }

-- ---- what a seat must be for a call

-- a core's seat has the book of that core and nothing else
pub record IsCoreSeat (seat : SeatModel) (c : ℕ) (b : Book) : Type 0 where
  pub book : book_at seat c ≡ Some b
  pub only : (d : ℕ) (e : Book) → book_at seat d ≡ Some e → d ≡ c
  pub conductor : seat.conductor ≡ None

-- it is the seat of some core
abbrev pub HasCore : SeatModel → Type 0
HasCore seat = (c : ℕ) × (b : Book) × IsCoreSeat seat c b

-- the seat of some core of this board
pub record IsCoreSeatOn (board : BoardModel) (seat : SeatModel) : Type 0 where
  pub core : HasCore seat
  pub on : seat.board ≡ board

-- a core's seat in this phase
pub record IsIn (phase : SeatPhase) (seat : SeatModel) : Type 0 where
  pub core : ℕ
  pub book : Book
  pub of_core : IsCoreSeat seat core book
  pub stands : phase_in seat.board.size.ticks book ≡ phase

-- a core's seat that is admitted to its tick, has not acted in it, and holds or awaits this
pub record MayAct (lock : Phase) (seat : SeatModel) : Type 0 where
  pub at : IsIn Admitted seat
  pub quiet : has_acted at.book ≡ false
  pub claims : lock_of at.book ≡ lock

-- a core's seat that is admitted to its tick and has not acted in it, whatever it holds or awaits
abbrev pub IsFresh : SeatModel → Type 0
IsFresh seat = (lock : Phase) × MayAct lock seat

-- the seat has another book than that of core c: another core's, or the conductor's
abbrev pub HasAnother : ℕ → SeatModel → Type 0
HasAnother c seat = ((d : ℕ) × (b : Book) × (book_at seat d ≡ Some b) × ¬ (d ≡ c)) ⊎ IsSome seat.conductor

-- the seat has the book of each core, and the conductor's
pub record HasAll (seat : SeatModel) : Type 0 where
  pub cores : (c : ℕ) → c < seat.board.size.cores → IsSome (book_at seat c)
  pub conductor : IsSome seat.conductor
