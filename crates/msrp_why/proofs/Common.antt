-- What most proofs of this crate cite, passed on from one place. Declares nothing.
pub use Rattle.msrp_audit.proofs.Judging.{due_after, own_is}
pub use Rattle.msrp_audit.specs.Audits.{HasFed, has_turn}
pub use Rattle.msrp_core.specs.CoreStates.{IsCoreState}
pub use Rattle.msrp_plan.proofs.Choosing.Live.{holds_kept, nothing_done}
pub use Rattle.msrp_plan.specs.Laws.{IsHeldByOne, is_grant}
pub use Rattle.msrp_plan.specs.declared.ids.JobId.{JobId}
pub use Rattle.msrp_plan.specs.declared.ids.ResId.{ResId}
pub use Rattle.msrp_plan.specs.declared.rows.Kind.{Kind}
pub use Rattle.msrp_plan.specs.declared.rows.Kind.TheVariants.{Lock, Queue, Release, Run, Take, Unlock}
pub use Rattle.msrp_plan.specs.declared.rows.Row.{Row}
pub use Rattle.msrp_plan.specs.declared.units.Op.{Op}
pub use Rattle.msrp_plan.specs.declared.units.Op.TheVariants.{Lock as LockUnit, Run as RunUnit, Unlock as UnlockUnit}
pub use Rattle.msrp_why.specs.Noted.{AreResourceCounts, AreResourcesNoted, IsLockBy, IsNoted, changes, deadline_of, is_at, is_at_most, is_change, is_entry, is_in_tick, is_inside, is_opening, is_other, is_user, job_of, last_change, last_row, most_after, numbered, queue_rows, queued_with, requests}
pub use Rattle.msrp_why.specs.declared.notes.Numbered.{Numbered}
pub use Rattle.msrp_why.specs.declared.notes.ResourceNotes.{ResourceNotes}
pub use Rattle.std.proofs.Math.Nat.{max-zero, min-eq_left}
pub use Rattle.std.proofs.lemmas.Bool.{eqb-true}
pub use Rattle.std.specs.Option.{option_map, option_map_or}
