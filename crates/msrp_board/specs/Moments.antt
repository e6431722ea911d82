-- A board between two steps: its words, and what each of its seats has.
use Rattle.std.specs.Prelude.{◌≡◌}
use Rattle.msrp_plan.specs.Common.{ℕ, List, Some, slice_get, slice_index, take}
use Rattle.msrp_board.specs.Common.{BoardSize, Book, Conductor}
use Rattle.msrp_board.specs.Seats.{SeatModel, book_at}
use Rattle.msrp_board.specs.Boards.{WholeBoard, IsTied}

-- the i-th seat holds this book of core c
abbrev pub HoldsBook : List SeatModel → ℕ → ℕ → Book → Type 0
HoldsBook seats i c b = (seat : SeatModel) × (slice_get seats i ≡ Some seat) × (book_at seat c ≡ Some b)

-- the i-th seat holds the conductor's book
abbrev pub HoldsConductor : List SeatModel → ℕ → Conductor → Type 0
HoldsConductor seats i o = (seat : SeatModel) × (slice_get seats i ≡ Some seat) × (seat.conductor ≡ Some o)

-- the seats share out the books of a whole board: each book is in one seat, as the board has it
pub record IsSharedOut (seats : List SeatModel) (whole : WholeBoard) : Type 0 where
  pub books : (i c : ℕ) (b : Book) → HoldsBook seats i c b → slice_get whole.books c ≡ Some b
  pub with_one : (c : ℕ) (b : Book) → slice_get whole.books c ≡ Some b → (i : ℕ) × HoldsBook seats i c b
  pub with_no_other : (i j c : ℕ) (b e : Book) → HoldsBook seats i c b → HoldsBook seats j c e → i ≡ j
  pub conductor : (i : ℕ) (o : Conductor) → HoldsConductor seats i o → o ≡ whole.conductor
  pub conductor_with_one : (i : ℕ) × HoldsConductor seats i whole.conductor
  pub conductor_with_no_other : (i j : ℕ) (o e : Conductor) → HoldsConductor seats i o → HoldsConductor seats j e → i ≡ j

-- the words and the seats of a board of this size are tied: the seats share out a whole board with
-- these words, which obeys the rule
pub record AreTied (size : BoardSize) (words : List ℕ) (seats : List SeatModel) : Type 0 where
  pub whole : WholeBoard
  pub sized : whole.size ≡ size
  pub tickets : whole.tickets ≡ take size.resources words
  pub barrier : whole.barrier ≡ slice_index words size.resources
  pub shared : IsSharedOut seats whole
  pub tied : IsTied whole

-- what a seat has is part of a whole board that obeys the rule
pub record StandsIn (seat : SeatModel) : Type 0 where
  pub whole : WholeBoard
  pub sized : whole.size ≡ seat.board.size
  pub books : (c : ℕ) (b : Book) → book_at seat c ≡ Some b → slice_get whole.books c ≡ Some b
  pub conductor : (o : Conductor) → seat.conductor ≡ Some o → o ≡ whole.conductor
  pub tied : IsTied whole
