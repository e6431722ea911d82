use Rattle.std.proofs.Common.{subst}
use Rattle.msrp_system.specs.Inside.Views.{IsSystem}
use Rattle.msrp_system.proofs.parts.Parts.task.Goals as goal

pub returns-clause-system : goal.returns-clause-system
returns-clause-system c = subst IsSystem c.self.view_is c.self.invariant
