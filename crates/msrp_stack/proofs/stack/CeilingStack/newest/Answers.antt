use Rattle.std.proofs.Common.{◌≡◌}
use Rattle.msrp_plan.proofs.Common.{subst}
use Rattle.msrp_stack.proofs.Common.{newest, started_of, top}
use Rattle.msrp_stack.proofs.Tops.{newest_first}
use Rattle.msrp_stack.proofs.stack.CeilingStack.newest.Goals as goal

pub returns-clause-first : goal.returns-clause-first
returns-clause-first c =
    subst (λ s. newest s.started ≡ top s) c.self.view_is (newest_first c.self.inside.plan.now c.self.inside.core.0 (started_of c.self.inside.started.items) c.self.invariant.known c.self.invariant.falling)
