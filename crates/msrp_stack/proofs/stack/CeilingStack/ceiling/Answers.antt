use Rattle.std.proofs.Common.{◌≡◌}
use Rattle.msrp_plan.proofs.Common.{reverse, subst}
use Rattle.msrp_stack.proofs.Common.{current_ceiling, is_held, layers_of, started_of}
use Rattle.msrp_stack.proofs.Layers.{layers_ceiling, held_in_layers}
use Rattle.msrp_stack.proofs.stack.CeilingStack.ceiling.Goals as goal

-- src/stack.rt:80:5
pub returns : goal.returns
returns c =
    let items = c.self.inside.started.items in
    subst (λ s. c.self.inside.ceiling ≡ current_ceiling s) c.self.view_is
    (layers_ceiling c.self.inside.plan.now c.self.inside.core.0 (layers_of items) c.self.inside.ceiling (is_held (started_of items)) c.self.invariant.layers (held_in_layers (reverse items)))
