use Rattle.msrp_plan.proofs.Common.{subst, sym}
use Rattle.msrp_stack.proofs.Common.{CanStart}
use Rattle.msrp_stack.proofs.Changes.{has_room}
use Rattle.msrp_stack.proofs.stack.CeilingStack.start.Goals as goal

-- src/stack.rt:18:9
pub push_reserved-requires : goal.push_reserved-requires
push_reserved-requires c =
    has_room c.self.inside.plan.now c.self.inside.core.0 _ c.self.inside.started.items c.args.job (subst (λ s. CanStart s c.args.job) (sym c.self.view_is) c.requires) c.self.invariant.known c.self.invariant.falling c.self.invariant.fits c.self.inside.started.len c.self.inside.started.ok.0
