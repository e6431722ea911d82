-- What most proofs of this crate cite, passed on from one place. Declares nothing.
pub use Rattle.atomic_table.proofs.Lists.{at_last, at_longer, at_set, set_again, set_else, set_here}
pub use Rattle.atomic_table.specs.Seated.{TableId}
pub use Rattle.atomic_table.specs.Table.{Allows, Final, Joins, Me, Seen, Splits, State, keeps, opening, step, stepped}
pub use Rattle.crossbeam_utils.specs.Padded.{padded_value}
pub use Rattle.msrp_board.specs.Boards.{IsTied, WholeBoard, abort_count, entries_at, opening_count}
pub use Rattle.msrp_board.specs.Books.{AreBefore, IsBefore, IsChain, IsKept, IsSize, ToNext, admissions_of, has_acted, lock_of, on_resource, phase_by, phase_in, res_calls}
pub use Rattle.msrp_board.specs.History.{Event, IsHistory, IsNotLater, IsServed, Placed, PollsInOrder, by_core, calls, is_poll, is_release, is_request, place_after}
pub use Rattle.msrp_board.specs.Inside.Held.{AreStates, IsBelow, IsHeld, IsOwn, IsWhole, Shows, kept_if, kept_of, look_if, look_of, page_at, phase_of, seen_as, settled_as, state_at, state_of, told, with_own}
pub use Rattle.msrp_board.specs.Inside.Newest.{IsClaimInTurn, IsPollAfter, IsRegularNewest, LegalNewest, NoneLater, PlacedNewest, PollsNewest, RisingNewest, TicksNewest, asks, claim_of, claim_with_call, granted, leaves, lock, queue, ticket_at, ticket_of}
pub use Rattle.msrp_board.specs.Inside.Rule.{AtStart, Gathered, HasConductor, HasEntered, HasOnly, HasPage, IsKeptNewest, IsServedNewest, IsTicketWord, IsTiedNewest, IsUnderRule, Owns, OwnsBy, Ruled, Shared, SharedBy, SharedConductor, Tells, TellsChange, TellsLook, TellsRule, ViewIsBehind, ViewMayAct, arrivals, empty_page, entry_count, first_view, page_admissions, page_after_look, page_after_look_if, page_has_acted, page_with, page_with_arrival, page_with_ask, page_with_entry, page_with_leave, page_with_poll, spent, view_alone, view_both, view_with_conductor, view_without, with_pages}
pub use Rattle.msrp_board.specs.Seats.{BoardModel, HasAll, HasCore, IsCoreSeat, IsCoreSeatOn, IsFresh, IsIn, IsSeat, MayAct, SeatModel, book_at, empty_book, first_seat}
pub use Rattle.msrp_board.specs.Steps.{IsBehind, alone, book_with_admission, book_with_entry, both, either, none_at, only_at, together, with_admission, with_books, with_entry, with_stop, without}
pub use Rattle.msrp_board.specs.Words.{high, low, ticket_word}
pub use Rattle.msrp_board.specs.declared.answers.Look.TheVariants.{Go, Wait}
pub use Rattle.msrp_board.specs.declared.answers.SeatPhase.{SeatPhase}
pub use Rattle.msrp_board.specs.declared.answers.SeatPhase.TheVariants.{Admitted, Done, Waiting}
pub use Rattle.msrp_board.specs.declared.books.BoardSize.{BoardSize}
pub use Rattle.msrp_board.specs.declared.books.Book.{Book}
pub use Rattle.msrp_board.specs.declared.books.Conductor.{Conductor}
pub use Rattle.msrp_board.specs.declared.books.Conductor.TheVariants.{Aborted, Opened, Unopened}
pub use Rattle.msrp_board.specs.declared.books.Entry.{Entry}
pub use Rattle.msrp_board.specs.declared.held.Claim.{Claim}
pub use Rattle.msrp_board.specs.declared.held.Claim.TheVariants.{Holds, Nothing, Waits}
pub use Rattle.msrp_board.specs.declared.held.CoreState.{CoreState}
pub use Rattle.msrp_board.specs.declared.pages.Page.{Page}
pub use Rattle.msrp_board.specs.declared.pages.View.{View}
pub use Rattle.msrp_board.specs.declared.states.Kept.{Kept}
pub use Rattle.msrp_board.specs.declared.states.States.{End, Of', States}
pub use Rattle.msrp_plan.specs.FifoLock.{granted_after}
pub use Rattle.msrp_plan.specs.declared.ids.ResId.{ResId}
pub use Rattle.msrp_plan.specs.declared.units.Call.{Call}
pub use Rattle.msrp_plan.specs.declared.units.Call.TheVariants.{Ask, Leave, Poll}
pub use Rattle.msrp_plan.specs.declared.units.Phase.{Phase}
pub use Rattle.msrp_plan.specs.declared.units.Phase.TheVariants.{Free, Holding, Queued}
pub use Rattle.std.specs.Bool.{OnTrue}
pub use Rattle.std.specs.Option.{is_some, option_map, unwrap_or}
pub use Rattle.std.specs.declared.option.Option.{Option}
pub use native.Mathlib.Decide.{dec_le, dec_lt}
