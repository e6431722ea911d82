use Rattle.std.proofs.Common.{◌≡◌, ◌<◌, ◌∙◌}
use Rattle.msrp_plan.proofs.Common.{length, arith, ap, length-set}
use Rattle.msrp_stack.proofs.Common.{ceiling_at}
use Rattle.msrp_stack.proofs.Changes.{told_more}
use Rattle.msrp_stack.proofs.stack.ceilings_at.Goals as goal

pub loop-res-preserved : goal.loop-res-preserved
loop-res-preserved c =
    let few = c.resources-res-end.ensures.plan.draft.resources in
    let there : c.loop-res.res < length c.loop-res.ceilings = omega (arith, few, c.loop-res-test.true, c.resources-res-end.ensures.value, c.loop-res.invariant.0) in
    let is : c.ceiling.result ≡ ceiling_at c.args.plan.now c.loop-res.res c.args.core.0 = c.ceiling.ensures ∙ ap (λ p. ceiling_at p c.loop-res.res c.args.core.0) c.requires.levels in
    (length-set c.loop-res.ceilings c.loop-res.res c.ceiling.result ∙ c.loop-res.invariant.0, told_more (λ g. ceiling_at c.args.plan.now g c.args.core.0) c.loop-res.ceilings c.loop-res.res c.ceiling.result there is c.loop-res.invariant.1)
