-- What a worker is given, and what it returns.
use Rattle.std.specs.Prelude.{◌≡◌, ◌⊎◌}
use Rattle.msrp_plan.specs.Common.{ℕ, [], length, true, carries_ahead, PlanModel, CoreRun}
use Rattle.msrp_run.specs.Common.{BoardModel, Book, Done, Fits, IsCoreSeat, LogModel, MachineModel, Row, SeatModel, StandsAfter, Stopped, Waiting, empty_book, lock_of, phase_in, rows_of, size_of, with_admission}
use Rattle.msrp_run.specs.Turns.{CoreModel, HasTurned, core_with}

-- a core before its first turn: a new machine, an empty log for the plan's ticks, and the core's
-- seat on a board of the plan, which waits for tick 0
pub record IsNew (board : BoardModel) (m : MachineModel) (log : LogModel) (seat : SeatModel) : Type 0 where
  pub stands : StandsAfter m []
  pub empty : log ≡ record { core = m.core; ticks = m.plan.ticks; turns = [] }
  pub size : board.size ≡ size_of m.plan
  pub on : seat.board ≡ board
  pub of_core : IsCoreSeat seat m.core empty_book

-- a core between two turns, waiting for its tick: its log is a run of the core that fits its book,
-- and its machine stands after the log
pub record IsAtWork (board : BoardModel) (plan : PlanModel) (c : ℕ) (m : MachineModel) (log : LogModel) (seat : SeatModel) : Type 0 where
  pub plan_is : m.plan ≡ plan
  pub core : m.core ≡ c
  pub stands : StandsAfter m (rows_of log.turns)
  pub log_core : log.core ≡ c
  pub log_ticks : log.ticks ≡ plan.ticks
  pub size : board.size ≡ size_of plan
  pub on : seat.board ≡ board
  pub book : Book
  pub of_core : IsCoreSeat seat c book
  pub waits : phase_in seat.board.size.ticks book ≡ Waiting
  pub tick : book.tick ≡ m.tick
  pub claims : lock_of book ≡ m.phase
  pub run : CoreRun plan c (rows_of log.turns)
  pub fits : Fits log.turns book.entries
  pub aheads : carries_ahead (rows_of log.turns) ≡ true

-- a core in its turn: it was at work, was let into its tick, and had the turn with this row
pub record IsInTurn (board : BoardModel) (plan : PlanModel) (c : ℕ) (m : MachineModel) (log : LogModel) (seat : SeatModel) : Type 0 where
  pub before : CoreModel
  pub at_work : IsAtWork board plan c before.machine before.log before.seat
  pub row : Row
  pub turned : HasTurned board (core_with before.machine before.log (with_admission before.seat)) row (core_with m log seat)

-- the whole log of a core: a run of the core to the plan's last tick, which carries its aheads and
-- fits the book of the core, which has arrived from its last tick
pub record IsWhole (plan : PlanModel) (c : ℕ) (log : LogModel) (b : Book) : Type 0 where
  pub core : log.core ≡ c
  pub run : CoreRun plan c (rows_of log.turns)
  pub size : length log.turns ≡ plan.ticks
  pub aheads : carries_ahead (rows_of log.turns) ≡ true
  pub fits : Fits log.turns b.entries
  pub done : phase_in plan.ticks b ≡ Done

-- the log of a core that saw the stop: it is empty
pub record IsStopped (plan : PlanModel) (c : ℕ) (log : LogModel) (b : Book) : Type 0 where
  pub core : log.core ≡ c
  pub empty : log.turns ≡ []
  pub stopped : phase_in plan.ticks b ≡ Stopped

-- what the worker of a core leaves in its log and its book: a whole log, or none
abbrev pub IsWorked : PlanModel → ℕ → LogModel → Book → Type 0
IsWorked plan c log b = IsWhole plan c log b ⊎ IsStopped plan c log b

-- what the worker of a core returns: its log, and the same core's seat on the same board
pub record HasWorked (board : BoardModel) (plan : PlanModel) (c : ℕ) (log : LogModel) (seat : SeatModel) : Type 0 where
  pub on : seat.board ≡ board
  pub book : Book
  pub of_core : IsCoreSeat seat c book
  pub worked : IsWorked plan c log book
