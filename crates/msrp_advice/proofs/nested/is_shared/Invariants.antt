use Rattle.std.proofs.Common.{◌≡◌}
use Rattle.msrp_advice.specs.Records.{core_at}
use Rattle.msrp_advice.proofs.nested.is_shared.Given as goal

abbrev pub invariant-loop-k : goal.invariant-loop-k
invariant-loop-k l = l.core ≡ core_at l.records l.k
