use Rattle.std.proofs.Common.{◌≡◌}
use Rattle.msrp_policy_tests.specs.Deaf.{deaf_port}
use Rattle.msrp_core.specs.Ports.{claim_in}
use Rattle.msrp_policy_tests.proofs.machine.who_is_never_granted_spins_to_the_end.Given as goal

abbrev pub invariant-loop-kind : goal.invariant-loop-kind
invariant-loop-kind g l = record { plan : l.machine.plan ≡ l.plan; claim : claim_in l.machine.core (deaf_port l.port.core l.port.room l.port.resources l.port.calls.items).calls ≡ l.machine.phase }
