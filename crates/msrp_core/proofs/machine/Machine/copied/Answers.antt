use Rattle.std.proofs.Common.{◌∙◌}
use Rattle.msrp_core.proofs.Copying.{copied_same, copied_view}
use Rattle.msrp_core.proofs.machine.Machine.copied.Goals as goal

pub copied-requires : goal.copied-requires
copied-requires c = c.self.invariant.jobs_fit

pub invariant_of-result : goal.invariant_of-result
invariant_of-result c = let is = c.in_ok-copied.ensures in copied_view c.self.inside c.in_ok-copied.field-0 (record { is = is.same; below = is.below; room = is.room; units = is.units }) c.self.invariant

pub returns : goal.returns
returns c = let is = c.in_ok-copied.ensures in copied_same c.self.inside c.in_ok-copied.field-0 (record { is = is.same; below = is.below; room = is.room; units = is.units }) ∙ c.self.view_is
