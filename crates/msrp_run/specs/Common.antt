-- The words that most definitions of this crate use, imported from one place. Declares nothing.
pub use Rattle.msrp_board.specs.Boards.{IsTied, WholeBoard, entries_at}
pub use Rattle.msrp_board.specs.Books.{has_acted, lock_of, phase_in}
pub use Rattle.msrp_board.specs.History.{Event, IsServed, is_poll}
pub use Rattle.msrp_board.specs.Seats.{BoardModel, IsCoreSeat, SeatModel, book_at, empty_book}
pub use Rattle.msrp_board.specs.Steps.{with_admission, with_entry}
pub use Rattle.msrp_board.specs.declared.answers.SeatPhase.TheVariants.{Admitted, Done, Stopped, Waiting}
pub use Rattle.msrp_board.specs.declared.books.Book.{Book}
pub use Rattle.msrp_board.specs.declared.books.Conductor.TheVariants.{Aborted, Opened, Unopened}
pub use Rattle.msrp_board.specs.declared.books.Entry.{Entry}
pub use Rattle.msrp_core.specs.Machine.{MachineModel, StandsAfter}
pub use Rattle.msrp_merge.specs.Merging.{AreLogs, log_at, size_of, turns_of}
pub use Rattle.msrp_merge.specs.Turns.{Fits, IsTurnOf, LogModel, is_step, rows_of}
pub use Rattle.msrp_merge.specs.declared.logs.Place.{Place}
pub use Rattle.msrp_merge.specs.declared.logs.Turn.{Turn}
pub use Rattle.msrp_plan.specs.declared.rows.Row.{Row}
