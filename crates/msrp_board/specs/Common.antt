-- The words that most definitions of this crate use, imported from one place. Declares nothing.
pub use Rattle.atomic_table.specs.Seated.{TableId}
pub use Rattle.atomic_table.specs.Table.{Me, State, Step}
pub use Rattle.msrp_board.specs.declared.answers.SeatPhase.{SeatPhase}
pub use Rattle.msrp_board.specs.declared.answers.SeatPhase.TheVariants.{Admitted, Done, Stopped, Waiting}
pub use Rattle.msrp_board.specs.declared.books.BoardSize.{BoardSize}
pub use Rattle.msrp_board.specs.declared.books.Book.{Book}
pub use Rattle.msrp_board.specs.declared.books.Conductor.{Conductor}
pub use Rattle.msrp_board.specs.declared.books.Conductor.TheVariants.{Aborted, Opened, Unopened}
pub use Rattle.msrp_board.specs.declared.books.Entry.{Entry}
pub use Rattle.msrp_board.specs.declared.held.Claim.{Claim}
pub use Rattle.msrp_board.specs.declared.held.Claim.TheVariants.{Holds, Nothing, Waits}
pub use Rattle.msrp_board.specs.declared.pages.Page.{Page}
pub use Rattle.msrp_board.specs.declared.pages.View.{View}
pub use Rattle.msrp_plan.specs.declared.ids.ResId.{ResId}
pub use Rattle.msrp_plan.specs.declared.units.Call.{Call}
pub use Rattle.msrp_plan.specs.declared.units.Call.TheVariants.{Ask, Leave, Poll}
pub use Rattle.msrp_plan.specs.declared.units.Phase.{Phase}
pub use Rattle.std.specs.Option.{option_map, unwrap_or}
pub use Rattle.std.specs.declared.option.Option.{Option}
pub use lib.ListN.{get_elem?}
pub use mathlib.Core.Option.{some}
