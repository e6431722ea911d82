use Rattle.std.proofs.Common.{◌≡◌, ◌<◌}
use Rattle.msrp_plan.proofs.Common.{sym, subst, Answers}
use Rattle.msrp_plan.specs.declared.units.Call.TheVariants.{Leave}
use Rattle.msrp_plan.specs.declared.units.Phase.TheVariants.{Holding}
use Rattle.msrp_core.specs.Ports.{claim_in}
use Rattle.msrp_sim.specs.Served.{FifoModel, lock_after_calls}
use Rattle.msrp_sim.proofs.Queues.{first_among}
use Rattle.msrp_sim.proofs.Serving.{holds_at, known_by}
use Rattle.msrp_sim.proofs.fifo.FifoPortPort.leave.Goals as goal

pub serve-requires-clause-resource : goal.serve-requires-clause-resource
serve-requires-clause-resource c =
    let p = c.self.inside in
    let holding = subst (λ (m : FifoModel). claim_in c.args.core.0 m.calls ≡ Holding c.args.res) (sym c.self.view_is) c.requires.holding in
    let holds = holds_at (lock_after_calls p.calls.items) c.args.core.0 (claim_in c.args.core.0 p.calls.items) (c.self.invariant.serving.stances c.args.core.0) c.args.res holding in
    subst (λ (m : FifoModel). c.args.res.0 < m.resources) c.self.view_is (known_by p.calls.items c.args.core.0 c.args.res.0 p.resources c.self.invariant.known (first_among _ c.args.core.0 holds.0))

pub serve-requires-clause-answers : goal.serve-requires-clause-answers
serve-requires-clause-answers c =
    let p = c.self.inside in
    let holding = subst (λ (m : FifoModel). claim_in c.args.core.0 m.calls ≡ Holding c.args.res) (sym c.self.view_is) c.requires.holding in
    subst (λ (m : FifoModel). Answers (lock_after_calls m.calls c.args.res.0) c.args.core.0 Leave) c.self.view_is
    (holds_at (lock_after_calls p.calls.items) c.args.core.0 (claim_in c.args.core.0 p.calls.items) (c.self.invariant.serving.stances c.args.core.0) c.args.res holding)
