use Rattle.std.proofs.Common.{◌≤◌}
use Rattle.std.specs.Vec.{vec_capacity}
use Rattle.msrp_sim.specs.Cores.{AreNew}
use Rattle.msrp_sim.proofs.cores.machines_of.Given as goal

abbrev pub invariant-loop-core : goal.invariant-loop-core
invariant-loop-core l = AreNew l.fn.plan l.core l.machines.items × (l.fn.plan.cores ≤ vec_capacity l.machines)
