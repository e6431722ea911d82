-- The types that the definitions of pictures speak of.
pub use Rattle.msrp_plan.specs.declared.faults.Fault.{Fault}
pub use Rattle.msrp_plan.specs.declared.ids.CoreId.{CoreId}
pub use Rattle.msrp_plan.specs.declared.ids.JobId.{JobId}
pub use Rattle.msrp_plan.specs.declared.ids.ResId.{ResId}
pub use Rattle.msrp_plan.specs.declared.ids.TaskId.{TaskId}
pub use Rattle.msrp_plan.specs.declared.rows.Row.{Row}
pub use Rattle.msrp_picture.specs.declared.lives.Life.{Life}
pub use Rattle.msrp_picture.specs.declared.shapes.Block.{Block}
pub use Rattle.msrp_picture.specs.declared.shapes.Event.{Event}
pub use Rattle.msrp_picture.specs.declared.shapes.Lane.{Lane}
pub use Rattle.msrp_picture.specs.declared.shapes.Look.{Look}
pub use Rattle.msrp_picture.specs.declared.shapes.Moment.{Moment}
pub use Rattle.msrp_picture.specs.declared.shapes.Shapes.{Shapes}
pub use Rattle.msrp_picture.specs.declared.shapes.Violation.{Violation}
pub use Rattle.msrp_picture.specs.declared.windows.Asked.{Asked}
pub use Rattle.msrp_picture.specs.declared.windows.Window.{Window}
