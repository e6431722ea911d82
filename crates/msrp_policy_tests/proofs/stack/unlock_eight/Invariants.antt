use Rattle.std.proofs.Common.{◌≡◌, ◌-◌, ◌∷◌}
use Rattle.msrp_plan.proofs.Common.{[]}
use Rattle.msrp_policy_tests.specs.Nested.{nested}
use Rattle.msrp_policy_tests.proofs.stack.unlock_eight.Given as goal

abbrev pub invariant-loop-left : goal.invariant-loop-left
invariant-loop-left g l = l.stack ≡ record { plan = l.plan; core = 0; started = record { job = l.job; held = nested (8 - l.left) } ∷ [] }
