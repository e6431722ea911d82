use Rattle.std.proofs.Common.{◌≡◌}
use Rattle.msrp_plan.proofs.Common.{take}
use Rattle.msrp_audit.specs.Inside.Pieces.{earliest_of}
use Rattle.msrp_audit.proofs.parallel.earliest.Given as goal

abbrev pub invariant-loop-fault : goal.invariant-loop-fault
invariant-loop-fault l = record { first : l.first ≡ earliest_of (take l.fault-index l.faults) }
