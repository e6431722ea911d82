use Rattle.msrp_plan.proofs.Common.{sym, subst, arith}
use Rattle.msrp_plan.specs.Limits.{most_held}
use Rattle.msrp_stack.specs.Stack.{HasRoom}
use Rattle.msrp_policy_tests.proofs.Nested.{length-nested, not_nested}
use Rattle.msrp_policy_tests.proofs.stack.lock_eight.Goals as goal

pub lock-requires-clause-room : goal.lock-requires-clause-room
lock-requires-clause-room g c =
    let r = c.loop-r.r in
    let few = c.loop-r-test.true in
    let size = length-nested r in
    subst (λ stack. HasRoom stack.started most_held r) (sym c.loop-r.invariant) (omega (arith, size, few), not_nested r r (omega (arith)))
