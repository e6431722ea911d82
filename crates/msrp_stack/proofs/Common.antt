-- What most proofs of this crate cite, passed on from one place. Declares nothing.
pub use Rattle.msrp_levels.specs.Users.{ceiling_at}
pub use Rattle.msrp_plan.specs.declared.ids.JobId.{JobId}
pub use Rattle.msrp_stack.specs.Layers.{Layers, layers_of}
pub use Rattle.msrp_stack.specs.Stack.{CanStart, ComesFirst, HasRoom, IsDone, SomeHeld, StackModel, StartedJob, current_ceiling, is_among, is_held, newest, top, with_held, without_held}
pub use Rattle.msrp_stack.specs.StackView.{IsFalling, IsStack, started_of, started_view}
pub use Rattle.msrp_stack.specs.declared.stack.Held.{Held}
pub use Rattle.msrp_stack.specs.declared.stack.Started.{Started}
pub use Rattle.std.specs.List.{each_same, fold}
unfoldable pub use Rattle.std.specs.List.{IsDistinct}
