-- A port over a core's seat: what was asked through the seat, and how often its core may still call
-- in its tick. For code that makes a core's calls through a port.
use Rattle.std.specs.Prelude.{◌≡◌, ◌≢◌, ◌+◌, ◌∷◌, ◌++◌}
use Rattle.msrp_plan.specs.Common.{ℕ, List, [], Bool, false, Some, None, ResCall}
use Rattle.msrp_board.specs.Common.{Admitted, Book, Call, Option, ResId, SeatPhase}
use Rattle.msrp_board.specs.Books.{res_calls, phase_in, has_acted}
use Rattle.msrp_board.specs.Seats.{BoardModel, SeatModel, book_at, IsCoreSeat}

-- the calls of a book, none where there is no book
abbrev pub calls_in : Option Book → List ResCall
calls_in None = []
calls_in (Some b) = res_calls b.entries

-- the calls that core c made through the seat
abbrev pub port_calls : SeatModel → ℕ → List ResCall
port_calls seat c = calls_in (book_at seat c)

-- one call for a core that is let into its tick and hasn't acted in it; otherwise none
abbrev pub room_by : SeatPhase → Bool → ℕ
room_by Admitted false = 1
room_by _ _ = 0

-- how many calls the core of a book may still make in its tick
abbrev pub room_in : ℕ → Option Book → ℕ
room_in ticks None = 0
room_in ticks (Some b) = room_by (phase_in ticks b) (has_acted b)

-- how many calls core c may still make through the seat in its tick
abbrev pub port_room : SeatModel → ℕ → ℕ
port_room seat c = room_in seat.board.size.ticks (book_at seat c)

-- the seat of core c on this board, which is let into its tick
pub record IsPort (board : BoardModel) (c : ℕ) (seat : SeatModel) : Type 0 where
  pub on : seat.board ≡ board
  pub book : Book
  pub of_core : IsCoreSeat seat c book
  pub stands : phase_in seat.board.size.ticks book ≡ Admitted

-- one more call of core c, which may make one less
pub record AddsCall (c : ℕ) (res : ResId) (call : Call) (old new : SeatModel) : Type 0 where
  pub calls : port_calls new c ≡ port_calls old c ++ (res, call) ∷ []
  pub room : port_room new c + 1 ≡ port_room old c
  pub others : (d : ℕ) → d ≢ c → port_room new d ≡ port_room old d
  pub board : new.board ≡ old.board
