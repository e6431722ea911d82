use Rattle.msrp_plan.proofs.Common.{subst, sym}
use Rattle.msrp_stack.proofs.Common.{IsDone, IsStack}
use Rattle.msrp_stack.proofs.Changes.{finish_keeps}
use Rattle.msrp_stack.proofs.stack.CeilingStack.finish.Goals as goal

-- src/stack.rt:64:5
pub invariant_of-self : goal.invariant_of-self
invariant_of-self c =
    let keeps = finish_keeps c.self.inside.plan.now c.self.inside.core.0 c.self.inside.ceilings c.self.inside.started.items c.pop.new.self.items c.pop.result _ c.self.inside.ceiling c.pop.ensures.items (subst (λ s. IsDone s.started) (sym c.self.view_is) c.requires) c.self.invariant in
    subst (λ n. IsStack c.self.inside.plan.now c.self.inside.core.0 c.self.inside.ceilings c.pop.new.self.items n c.self.inside.ceiling) (sym c.pop.ensures.capacity) keeps
