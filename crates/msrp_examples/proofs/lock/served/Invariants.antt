use Rattle.std.proofs.Common.{◌≡◌}
use Rattle.msrp_examples.specs.Lock.{CanGoOn}
use Rattle.msrp_examples.proofs.lock.served.Given as goal

abbrev pub invariant-loop-core : goal.invariant-loop-core
invariant-loop-core l = record { first : l.first.core ≡ 0; second : l.second.core ≡ 1; first_plan : l.first.plan ≡ l.plan; second_plan : l.second.plan ≡ l.plan; first_goes_on : CanGoOn l.first l.port; second_goes_on : CanGoOn l.second l.port }
