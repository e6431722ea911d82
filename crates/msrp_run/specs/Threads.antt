-- The workers of all cores: what they are given, what their threads promise, and what they leave.
use Rattle.msrp_plan.specs.Common.{ℕ, List, [], Bool, true, false, Some, IsSome, IsTrue, length, slice_get, slice_index, slice_index_or, carries_ahead, PlanModel, IsRun}
use Rattle.msrp_run.specs.Common.{Aborted, AreLogs, BoardModel, Book, Done, Entry, Event, IsServed, IsTied, LogModel, Opened, Row, SeatModel, StandsAfter, Turn, Unopened, WholeBoard, book_at, empty_book, entries_at, log_at, phase_in, rows_of, size_of, turns_of}
use Rattle.std.specs.Prelude.{◌≡◌, ◌<◌, ◌≤◌, filter}
use Rattle.std.specs.declared.thread.PromisedHandle.{PromisedHandle}
use Rattle.msrp_board.specs.declared.books.Conductor.{Conductor}
use Rattle.msrp_plan.specs.Laws.{KeepsLaws}
use Rattle.msrp_merge.specs.Pairs.{Paired}
use Rattle.msrp_merge.specs.Sorting.{IsMerged}
use Rattle.msrp_merge.specs.Steps.{is_row_on, IsRowOfEvent}
use Rattle.msrp_run.specs.declared.workers.Ended.{Ended}
use Rattle.msrp_run.specs.declared.workers.CoreParts.{CoreParts}
use Rattle.msrp_run.specs.declared.workers.WorkPromise.{WorkPromise}
use Rattle.msrp_run.specs.Work.{IsWorked}

-- a machine of core c before its first turn, and an empty log
pub record AreNewParts (plan : PlanModel) (c : ℕ) (parts : CoreParts) : Type 0 where
  pub plan_is : parts.machine.plan ≡ plan
  pub core : parts.machine.core ≡ c
  pub new : StandsAfter parts.machine []
  pub log : parts.log ≡ record { core = c; ticks = plan.ticks; turns = [] }

-- one for each core, in rising order
abbrev pub AllAreNew : PlanModel → List CoreParts → Type 0
AllAreNew plan all_parts = (k : ℕ) (d : CoreParts) → k < length all_parts → AreNewParts plan k (slice_index_or all_parts k d)

-- the conductor's seat while the first n seats are out: it has the empty books of the others
pub record HasOthers (board : BoardModel) (n : ℕ) (seat : SeatModel) : Type 0 where
  pub on : seat.board ≡ board
  pub books : (c : ℕ) → n ≤ c → c < board.size.cores → book_at seat c ≡ Some empty_book
  pub conductor : seat.conductor ≡ Some Unopened

-- what the conductor does: it opens if all threads were started, and otherwise calls the run off
abbrev pub ordered : Bool → Conductor
ordered true = Opened
ordered false = Aborted

-- the conductor's seat after that, with the books of all but the first n cores
pub record HasRest (board : BoardModel) (n : ℕ) (did : Conductor) (seat : SeatModel) : Type 0 where
  pub on : seat.board ≡ board
  pub books : (c : ℕ) → n ≤ c → c < board.size.cores → IsSome (book_at seat c)
  pub conductor : seat.conductor ≡ Some did

-- the promise of the thread of core c
pub record IsPromise (board : BoardModel) (plan : PlanModel) (c : ℕ) (p : WorkPromise) : Type 0 where
  pub core : p.core.0 ≡ c
  pub on : p.seat.value.board ≡ board
  pub plan_is : p.plan.value ≡ plan

-- the promises of the threads of the cores, in rising order
abbrev pub ArePromised : {T : Type 0} → BoardModel → PlanModel → List (PromisedHandle T WorkPromise) → Type 0
ArePromised board plan handles = (k : ℕ) (d : _) → k < length handles → IsPromise board plan k (slice_index_or handles k d).promise

-- the logs of the first cores are what their workers return, with their books in the seat
abbrev pub AllWorked : PlanModel → List LogModel → SeatModel → Type 0
AllWorked plan logs seat = (k : ℕ) → k < length logs → (b : Book) × (book_at seat k ≡ Some b) × IsWorked plan k (log_at logs k) b

-- the started workers have ended: each has left its log, and the seat has all books
pub record HasEnded (board : BoardModel) (plan : PlanModel) (ended : Ended) : Type 0 where
  pub few : length ended.logs.items ≤ plan.cores
  pub all : IsTrue ended.all → length ended.logs.items ≡ plan.cores
  pub each : AllWorked plan ended.logs.items ended.seat
  pub rest : HasRest board (length ended.logs.items) (ordered ended.all) ended.seat

-- every core has arrived from its last tick
abbrev pub AreDone : ℕ → List Book → Type 0
AreDone ticks books = (c : ℕ) (b : Book) → slice_get books c ≡ Some b → phase_in ticks b ≡ Done

-- all cores have ended: their logs are runs of the cores, carry aheads and fit the board's books
pub record HasRun (plan : PlanModel) (logs : List LogModel) (board : WholeBoard) : Type 0 where
  pub logs_are : AreLogs plan logs (entries_at board.books)
  pub aheads : (c : ℕ) → c < plan.cores → carries_ahead (rows_of (turns_of logs c)) ≡ true
  pub opened : board.conductor ≡ Opened
  pub done : AreDone plan.ticks board.books

-- the run was called off, and no core has made a row
pub record IsCalledOff (logs : List LogModel) (board : WholeBoard) : Type 0 where
  pub aborted : board.conductor ≡ Aborted
  pub empty : (k : ℕ) → k < length logs → turns_of logs k ≡ []

-- the rows' steps on resource g are, in order, its one history on the board: it fits the ticket
-- word's counts and has the answers of a first-in-first-out lock
abbrev pub IsServedAs : WholeBoard → ℕ → List Row → Type 0
IsServedAs board g rows = (h : List Event) × IsServed (slice_index board.tickets g) g (entries_at board.books) h × Paired IsRowOfEvent (filter (is_row_on g) rows) h

-- the rows are the turns of the cores' logs, with the places of the books: by tick, and in a tick
-- by rank: those without a place first, by core, then the others by resource and place
pub record IsInOrder (plan : PlanModel) (books : ℕ → List Entry) (rows : List Row) : Type 0 where
  pub logs : List LogModel
  pub fit : AreLogs plan logs books
  pub turns : List Turn
  pub rows_are : rows ≡ rows_of turns
  pub sorted : IsMerged plan.cores plan.ticks (turns_of logs) turns

-- the rows are a legal run of the plan that obeys the laws and carries each queue's length; and
-- they are what the cores did on this board: it was opened, each core has arrived from its last
-- tick, the steps on each resource are its one history, and the rows are in the board's order
pub record IsRunOfBoard (plan : PlanModel) (board : WholeBoard) (rows : List Row) : Type 0 where
  pub run : IsRun plan rows
  pub laws : KeepsLaws plan rows
  pub aheads : carries_ahead rows ≡ true
  pub sized : board.size ≡ size_of plan
  pub tied : IsTied board
  pub opened : board.conductor ≡ Opened
  pub done : AreDone plan.ticks board.books
  pub history : (g : ℕ) → g < length plan.resources → IsServedAs board g rows
  pub order : IsInOrder plan (entries_at board.books) rows

-- the rows are what the cores did on some board
abbrev pub IsThreadedRun : PlanModel → List Row → Type 0
IsThreadedRun plan rows = (board : WholeBoard) × IsRunOfBoard plan board rows
