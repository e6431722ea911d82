-- The words that most definitions of this crate use, imported from one place. Declares nothing.
pub use Rattle.msrp_core.specs.declared.jobs.Jobs.{Jobs}
pub use Rattle.msrp_core.specs.declared.repeats.Poll.{Poll}
pub use Rattle.msrp_plan.specs.Phases.{phase_after, phase_with}
pub use Rattle.msrp_plan.specs.declared.ids.CoreId.{CoreId}
pub use Rattle.msrp_plan.specs.declared.ids.JobId.{JobId}
pub use Rattle.msrp_plan.specs.declared.ids.ResId.{ResId}
pub use Rattle.msrp_plan.specs.declared.rows.Kind.TheVariants.{Idle, Run, Spin}
pub use Rattle.msrp_plan.specs.declared.rows.Row.{Row}
pub use Rattle.msrp_plan.specs.declared.units.Phase.{Phase}
pub use Rattle.msrp_plan.specs.declared.units.Phase.TheVariants.{Free, Holding, Queued}
pub use Rattle.msrp_ready.specs.Ready.{has_release_by, head, is_among}
