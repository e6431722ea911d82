-- The words that most definitions of this crate use, imported from one place. Declares nothing.
pub use Rattle.msrp_plan.specs.declared.ids.JobId.{JobId}
pub use Rattle.msrp_plan.specs.declared.rows.Kind.{Kind}
pub use Rattle.msrp_plan.specs.declared.rows.Row.{Row}
pub use Rattle.msrp_report.specs.declared.lines.Line.{Line}
pub use Rattle.msrp_report.specs.declared.numbers.JobNumbers.{JobNumbers}
