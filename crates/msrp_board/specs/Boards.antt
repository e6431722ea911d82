-- The rule of a board, on its words and the books of all seats, between any two steps.
use Rattle.msrp_plan.specs.Common.{ℕ, List, length, true, slice_index, Some, slice_get, slice_index_or}
use Rattle.std.specs.Prelude.{◌≡◌, ◌+◌, ◌<◌, ◌≤◌, sum_by}
use Rattle.msrp_board.specs.Common.{Aborted, BoardSize, Book, Conductor, Entry, Opened}
use Rattle.msrp_board.specs.Books.{IsSize, admissions, IsKept}
use Rattle.msrp_board.specs.History.{Event, IsServed}
use Rattle.msrp_board.specs.Words.{high, low}
use Rattle.msrp_board.specs.Seats.{empty_book}

-- a whole board: its ticket words, from resource 0 on, its barrier word, all its books, from core 0
-- on, and the conductor's
pub record WholeBoard : Type 0 where
  pub size : BoardSize
  pub tickets : List ℕ
  pub barrier : ℕ
  pub books : List Book
  pub conductor : Conductor

-- the entries of core c
abbrev pub entries_at : List Book → ℕ → List Entry
entries_at books c = (slice_index_or books c empty_book).entries

-- 1 after the opening
abbrev pub opening_count : Conductor → ℕ
opening_count Opened = 1
opening_count _ = 0

-- 1 after an abort
abbrev pub abort_count : Conductor → ℕ
abort_count Aborted = 1
abort_count _ = 0

-- the rule of a board's words and of the books of all its seats
pub record IsTied (s : WholeBoard) : Type 0 where
  -- one book for each core
  pub cores : length s.books ≡ s.size.cores
  pub words : length s.tickets ≡ s.size.resources
  pub limits : IsSize s.size
  -- the ticket word of each resource counts its requests, high, and its releases, low, and its one
  -- history is that of a first-in-first-out lock
  pub served : (g : ℕ) → g < s.size.resources → (h : List Event) × IsServed (slice_index s.tickets g) g (entries_at s.books) h
  pub kept : (c : ℕ) (b : Book) → slice_get s.books c ≡ Some b → IsKept s.size b
  -- the barrier word counts the arrivals and the opening, low, and the abort, high
  pub arrivals : low s.barrier ≡ sum_by (λ b. b.tick) s.books + opening_count s.conductor
  pub abort : high s.barrier ≡ abort_count s.conductor
  -- a core saw the stop only after an abort
  pub told : (c : ℕ) (b : Book) → slice_get s.books c ≡ Some b → b.stopped ≡ true → s.conductor ≡ Aborted
  -- each core that is or was admitted to tick t met all that left the ticks below t
  pub met : (c t : ℕ) (b : Book) → slice_get s.books c ≡ Some b → t < admissions b → (s.conductor ≡ Opened) × ((d : ℕ) (e : Book) → slice_get s.books d ≡ Some e → t ≤ e.tick)
