use Rattle.std.proofs.Common.{◌≡◌, ◌+◌, ◌-◌, ◌∷◌, ◌∙◌}
use Rattle.msrp_plan.proofs.Common.{[], suc, ap, sym, subst, arith}
use Rattle.msrp_policy_tests.specs.Nested.{nested}
use Rattle.msrp_stack.specs.Stack.{StackModel, IsInnermost, without_held}
use Rattle.msrp_policy_tests.proofs.stack.unlock_eight.Goals as goal

pub unlock-requires-clause-innermost : goal.unlock-requires-clause-innermost
unlock-requires-clause-innermost g c =
    let left = c.loop-left.left in
    let few = c.loop-left-test.true in
    let next : 8 - left ≡ suc (7 - left) = omega (arith, few) in
    subst (λ stack. IsInnermost stack.started (7 - left)) (sym c.loop-left.invariant) (nested (7 - left), ap nested next)

pub loop-left-preserved : goal.loop-left-preserved
loop-left-preserved g c =
    let left = c.loop-left.left in
    let few = c.loop-left-test.true in
    let next : 8 - left ≡ suc (7 - left) = omega (arith, few) in
    let rest : 7 - left ≡ 8 - (left + 1) = omega (arith, few) in
    let job = c.args.job in
    let plan = c.args.plan.now in
    c.unlock.ensures
    ∙ ap (λ (stack : StackModel). record stack { started = without_held stack.started }) c.loop-left.invariant
    ∙ ap (λ held. record { plan = plan; core = 0; started = without_held (record { job = job; held = held } ∷ []) }) (ap nested next)
    ∙ ap (λ n. record { plan = plan; core = 0; started = record { job = job; held = nested n } ∷ [] }) rest
