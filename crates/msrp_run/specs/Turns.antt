-- One core's turn on a board: its machine, log and seat before the turn, and after it.
use Rattle.std.specs.Prelude.{◌≡◌, ◌++◌, ◌∷◌}
use Rattle.msrp_plan.specs.Common.{[], List, Option, None, true, false, carries_its_ahead, IsCoreTurn}
use Rattle.msrp_run.specs.Common.{Admitted, BoardModel, Book, Entry, IsCoreSeat, IsTurnOf, LogModel, MachineModel, Place, Row, SeatModel, StandsAfter, Turn, has_acted, is_step, lock_of, phase_in, rows_of, size_of}

-- a core may have its turn on a board of its plan: the machine stands after the log, which is of
-- its core and for the plan's ticks; the seat is the core's, in the machine's tick, hasn't acted,
-- and holds or awaits what the machine does
pub record MayTurn (board : BoardModel) (m : MachineModel) (log : LogModel) (seat : SeatModel) : Type 0 where
  pub stands : StandsAfter m (rows_of log.turns)
  pub log_core : log.core ≡ m.core
  pub log_ticks : log.ticks ≡ m.plan.ticks
  pub size : board.size ≡ size_of m.plan
  pub on : seat.board ≡ board
  pub book : Book
  pub of_core : IsCoreSeat seat m.core book
  pub admitted : phase_in seat.board.size.ticks book ≡ Admitted
  pub quiet : has_acted book ≡ false
  pub tick : book.tick ≡ m.tick
  pub claims : lock_of book ≡ m.phase

-- a turn and the entries of its core's book: exactly a turn on a global resource adds its own
pub data IsOneStep (turn : Turn) (before after : List Entry) : Type 0 where
  NoStep : (bare : turn.place ≡ None) (quiet : is_step turn.row.kind ≡ false) (same : after ≡ before) → IsOneStep turn before after
  OneStep : (entry : Entry) (told : IsTurnOf turn entry) (added : after ≡ before ++ entry ∷ []) → IsOneStep turn before after

-- what the thread of a core has: its machine, its log and its seat
pub record CoreModel : Type 0 where
  pub machine : MachineModel
  pub log : LogModel
  pub seat : SeatModel

-- a core with this machine, log and seat
abbrev pub core_with : MachineModel → LogModel → SeatModel → CoreModel
core_with m log seat = record { machine = m; log = log; seat = seat }

-- the core had its turn: the row is its next and its log's last one, after which the machine
-- stands; the seat is the same core's, in the same tick, and its book has the turn's entry
pub record HasTurned (board : BoardModel) (old : CoreModel) (row : Row) (new : CoreModel) : Type 0 where
  pub plan : new.machine.plan ≡ old.machine.plan
  pub core : new.machine.core ≡ old.machine.core
  pub is : IsCoreTurn old.machine.plan old.machine.core (rows_of old.log.turns) row
  pub ahead : carries_its_ahead row ≡ true
  pub place : Option Place
  pub logged : new.log ≡ record { core = old.log.core; ticks = old.log.ticks; turns = old.log.turns ++ record { row = row; place = place } ∷ [] }
  pub stands : StandsAfter new.machine (rows_of new.log.turns)
  pub on : new.seat.board ≡ board
  pub book : Book
  pub of_core : IsCoreSeat new.seat old.machine.core book
  pub admitted : phase_in new.seat.board.size.ticks book ≡ Admitted
  pub tick : book.tick ≡ old.machine.tick
  pub claims : lock_of book ≡ new.machine.phase
  pub stepped : (b : Book) → IsCoreSeat old.seat old.machine.core b → IsOneStep (record { row = row; place = place }) b.entries book.entries
