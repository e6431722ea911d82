-- What most proofs of this crate cite, passed on from one place. Declares nothing.
pub use Rattle.msrp_board.proofs.Unique.{Before, Lex, history_unique, sorted_history, step_of}
pub use Rattle.msrp_board.specs.Boards.{entries_at}
pub use Rattle.msrp_board.specs.Books.{IsChain, on_resource}
pub use Rattle.msrp_board.specs.History.{Event, IsHistory, IsNotLater, IsServed, PollsInOrder, by_core, calls, is_poll}
pub use Rattle.msrp_board.specs.declared.books.Entry.{Entry}
pub use Rattle.msrp_merge.specs.Coming.{IsMerging, rows_coming, turns_later}
pub use Rattle.msrp_merge.specs.Keeping.{place_of_touch, turn_of, turns_from}
pub use Rattle.msrp_merge.specs.Merging.{AreLogs, IsMergeOf, log_at, turns_of}
pub use Rattle.msrp_merge.specs.Order.{InOrder, Sorted, rank_cmp, rank_of, step_cmp, step_rank, turn_cmp}
pub use Rattle.msrp_merge.specs.Pairs.{Paired}
pub use Rattle.msrp_merge.specs.Sorting.{AreTurns, IsMerged, is_by, merged, no_turn, put, stands_before, turn_at, turns_in}
pub use Rattle.msrp_merge.specs.Steps.{AreServed, IsRowOfEvent, IsTurnOfEvent, is_row_on, is_step_on}
pub use Rattle.msrp_merge.specs.Turns.{Fits, IsTurnOf, LogModel, has_place, is_step, rows_of}
pub use Rattle.msrp_merge.specs.declared.logs.Place.{Place}
pub use Rattle.msrp_merge.specs.declared.logs.Turn.{Turn}
pub use Rattle.msrp_plan.proofs.Jobs.Keys.{nat_equal, then_equal}
pub use Rattle.msrp_plan.proofs.Lists.Prefixes.{each_append, each_weaker}
pub use Rattle.msrp_plan.proofs.Runs.Interleaving.{AreAnswered, interleaved_legal, interleaved_run}
pub use Rattle.msrp_plan.specs.Logs.{AreInterleaved}
pub use Rattle.msrp_plan.specs.declared.ids.JobId.{JobId}
pub use Rattle.msrp_plan.specs.declared.ids.ResId.{ResId}
pub use Rattle.msrp_plan.specs.declared.rows.Row.{Row}
pub use Rattle.msrp_plan.specs.declared.units.Call.{Call}
pub use Rattle.std.proofs.lemmas.Bool.{eqb-true}
pub use Rattle.std.proofs.lemmas.Cmp.{nat_cmp_total, on_total, ranked, then_total, tied_itself}
pub use Rattle.std.specs.Option.{option_map, unwrap_or}
pub use Rattle.std.specs.Ordering.{bool_cmp, ordering_reverse}
pub use Rattle.std.specs.declared.cmp.Ordering.{Ordering}
