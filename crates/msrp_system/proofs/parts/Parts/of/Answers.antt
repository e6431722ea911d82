use Rattle.msrp_system.proofs.AcceptedSystems.{accepted}
use Rattle.msrp_system.proofs.parts.Parts.of.Goals as goal

pub invariant_of-result : goal.invariant_of-result
invariant_of-result c = accepted c.args.cores c.args.resources.items c.args.tasks.items c.requires
