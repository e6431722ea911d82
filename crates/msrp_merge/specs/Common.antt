-- The words that most definitions of this crate use, imported from one place. Declares nothing.
pub use Rattle.msrp_board.specs.History.{Event, IsHistory, calls, is_poll}
pub use Rattle.msrp_board.specs.declared.books.Entry.{Entry}
pub use Rattle.msrp_merge.specs.declared.logs.Place.{Place}
pub use Rattle.msrp_merge.specs.declared.logs.Turn.{Turn}
pub use Rattle.msrp_plan.specs.declared.ids.JobId.{JobId}
pub use Rattle.msrp_plan.specs.declared.rows.Kind.TheVariants.{Grant, Idle, Queue, Release, Spin, Take}
pub use Rattle.msrp_plan.specs.declared.rows.Row.{Row}
