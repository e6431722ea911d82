-- What most proofs of this crate cite, passed on from one place. Declares nothing.
pub use Rattle.msrp_audit.specs.Audits.{HasFed, answer_of}
pub use Rattle.msrp_core.specs.CoreStates.{IsCoreState}
pub use Rattle.msrp_picture.specs.Blocks.{ceiling_after, ceiling_tick, first_of, first_section, goes_on, look_of, merged, queue_ticks, row_blocks, same_look, sections, shown_rows, ticks_of}
unfoldable pub use Rattle.msrp_picture.specs.Blocks.{ceilings, joined}
pub use Rattle.msrp_picture.specs.Rows.{is_job_of, rows_in, task_rows, ticks_begun}
pub use Rattle.msrp_picture.specs.Shapes.{after_last, life_of, task_lives}
pub use Rattle.msrp_picture.specs.Types.{Block, JobId, Lane, Life, Look, ResId, Row}
pub use Rattle.msrp_plan.proofs.Lists.Filters.{count_within}
pub use Rattle.msrp_plan.proofs.Runs.Verdicts.{fault_append}
pub use Rattle.msrp_plan.specs.Ceiling.{ceiling}
pub use Rattle.msrp_plan.specs.Requests.{HasTaken}
pub use Rattle.msrp_plan.specs.declared.faults.Fault.{Fault}
pub use Rattle.msrp_plan.specs.declared.faults.Rule.{Rule}
pub use Rattle.std.proofs.lemmas.Bool.{eqb-true}
pub use Rattle.std.specs.List.{slice_range}
pub use Rattle.std.specs.Vec.{vec_len}
