-- What most proofs of this crate cite, passed on from one place. Declares nothing.
pub use Rattle.msrp_core.specs.Active.{ActiveJob, AreActive, AreDistinct, AreLocal, AwaitsGlobal, HoldSo, HoldsLocal, HoldsSo, IsActiveJob, active_of, advanced, done_in, is_active, is_holding_phase, is_kept, is_newest, is_waiting_phase, started_job, state_in}
pub use Rattle.msrp_core.specs.CoreJobs.{Acts, ActsFor, AreJobs, AreOfCore, AreToldBy, CanAct, IsCurrent, IsNextUnit, IsRunning, IsSamePlace, IsTurnOf, active_in, is_preferred, rising_of, started_with, state_of, units_done}
pub use Rattle.msrp_core.specs.CoreStates.{IsCoreState}
pub use Rattle.msrp_core.specs.Machine.{IsMachineTurn, IsRefused, MachineModel, RepeatsOnly, StandsAfter}
pub use Rattle.msrp_core.specs.MachineView.{IsMachineView, Repeats, Spins, machine_view}
pub use Rattle.msrp_core.specs.Repeats.{CanRepeat, HasWorkLeft, Polls, kind_again, row_again, spin_again, spin_of}
pub use Rattle.msrp_core.specs.declared.actions.Action.{Action}
pub use Rattle.msrp_core.specs.declared.jobs.Jobs.{Jobs}
pub use Rattle.msrp_core.specs.declared.machine.Machine.TheInside.{Inside}
pub use Rattle.msrp_core.specs.declared.repeats.Poll.{Poll}
pub use Rattle.msrp_plan.proofs.TaskUnits.PlanUnits.{units_balance, units_flat}
pub use Rattle.msrp_plan.specs.Actions.{does_unit_after}
pub use Rattle.msrp_plan.specs.Choice.{chosen, running}
pub use Rattle.msrp_plan.specs.States.{moved_by}
pub use Rattle.msrp_plan.specs.declared.ids.CoreId.{CoreId}
pub use Rattle.msrp_plan.specs.declared.ids.JobId.{JobId}
pub use Rattle.msrp_plan.specs.declared.ids.ResId.{ResId}
pub use Rattle.msrp_plan.specs.declared.rows.Kind.{Kind}
pub use Rattle.msrp_plan.specs.declared.rows.Kind.TheVariants.{Grant, Idle, Release, Take}
pub use Rattle.msrp_plan.specs.declared.rows.Row.{Row}
pub use Rattle.msrp_plan.specs.declared.units.Op.{Op}
pub use Rattle.msrp_plan.specs.declared.units.Phase.{Phase}
pub use Rattle.msrp_plan.specs.declared.units.Phase.TheVariants.{Free, Holding, Queued}
pub use Rattle.msrp_ready.specs.Ready.{ReadyModel, has_come, has_release_by, is_among}
pub use Rattle.msrp_stack.specs.Stack.{CanStart, ComesFirst, HasRoom, IsInnermost, StackModel, StartedJob, current_ceiling, newest, with_held, without_held, without_newest}
pub use Rattle.std.proofs.lemmas.Bool.{eq-eqb, eqb-true}
pub use Rattle.std.proofs.lemmas.List.Elements.{Contains-get_or, filter_agree}
