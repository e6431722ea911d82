-- What most proofs of this crate cite, passed on from one place. Declares nothing.
pub use Rattle.msrp_board.proofs.CoreSeats.{alone_is_core, core_changed, core_is_one, not_acted, waiting_book}
pub use Rattle.msrp_board.proofs.SeatPortLemmas.{port_acts, port_adds, port_core}
pub use Rattle.msrp_board.specs.Boards.{IsTied, WholeBoard, entries_at}
pub use Rattle.msrp_board.specs.Books.{IsKept, admissions, admissions_of, has_acted, lock_of, phase_by, phase_in, res_calls}
pub use Rattle.msrp_board.specs.History.{Event, IsHistory, IsServed, is_poll}
pub use Rattle.msrp_board.specs.SeatPorts.{AddsCall, IsPort, calls_in, port_calls, port_room, room_by, room_in}
pub use Rattle.msrp_board.specs.Seats.{BoardModel, HasAll, IsCoreSeat, IsSeat, MayAct, SeatModel, book_at, empty_book}
pub use Rattle.msrp_board.specs.Steps.{alone, book_with_admission, book_with_arrival, book_with_entry, book_with_stop, both, either, with_admission, with_arrival, with_conductor, with_entry, with_stop, without}
pub use Rattle.msrp_board.specs.declared.answers.SeatPhase.{SeatPhase}
pub use Rattle.msrp_board.specs.declared.answers.SeatPhase.TheVariants.{Admitted, Done, Stopped, Waiting}
pub use Rattle.msrp_board.specs.declared.books.BoardSize.{BoardSize}
pub use Rattle.msrp_board.specs.declared.books.Book.{Book}
pub use Rattle.msrp_board.specs.declared.books.Conductor.TheVariants.{Aborted, Opened}
pub use Rattle.msrp_board.specs.declared.books.Entry.{Entry}
pub use Rattle.msrp_core.specs.Machine.{MachineModel, StandsAfter}
pub use Rattle.msrp_core.specs.Ports.{Adds, IsQuiet, MakesCall, PortModel, asked, calls_of, claim_in, res_call}
pub use Rattle.msrp_core.specs.declared.port.PortCall.{PortCall}
pub use Rattle.msrp_merge.specs.Merging.{AreLogs, IsMergeOf, log_at, size_of, turns_of}
pub use Rattle.msrp_merge.specs.Pairs.{Paired}
pub use Rattle.msrp_merge.specs.Steps.{IsRowOfEvent, is_row_on}
pub use Rattle.msrp_merge.specs.Turns.{Fits, IsTurnOf, LogModel, is_step, rows_of}
pub use Rattle.msrp_merge.specs.declared.logs.Place.{Place}
pub use Rattle.msrp_merge.specs.declared.logs.Turn.{Turn}
pub use Rattle.msrp_plan.specs.declared.ids.CoreId.{CoreId}
pub use Rattle.msrp_plan.specs.declared.ids.ResId.{ResId}
pub use Rattle.msrp_plan.specs.declared.rows.Row.{Row}
pub use Rattle.msrp_plan.specs.declared.units.Call.{Call}
pub use Rattle.msrp_plan.specs.declared.units.Call.TheVariants.{Ask, Leave, Poll}
pub use Rattle.msrp_plan.specs.declared.units.Phase.{Phase}
pub use Rattle.msrp_plan.specs.declared.units.Phase.TheVariants.{Free, Holding, Queued}
pub use Rattle.msrp_run.specs.Ports.{HasAsked, IsSeatPort, IsStepSince, SeatPortModel, calls_by, port_of}
pub use Rattle.msrp_run.specs.Threads.{AllAreNew, AllWorked, AreDone, AreNewParts, ArePromised, HasEnded, HasOthers, HasRest, HasRun, IsCalledOff, IsPromise, IsRunOfBoard, IsServedAs, ordered}
pub use Rattle.msrp_run.specs.Turns.{HasTurned, IsOneStep, MayTurn, NoStep, OneStep, core_with}
pub use Rattle.msrp_run.specs.Work.{HasWorked, IsAtWork, IsNew, IsWhole, IsWorked}
pub use Rattle.msrp_run.specs.declared.workers.CoreParts.{CoreParts}
