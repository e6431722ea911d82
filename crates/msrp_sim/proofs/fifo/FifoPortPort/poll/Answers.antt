use Rattle.std.proofs.Common.{◌≡◌, ◌<◌}
use Rattle.msrp_plan.proofs.Common.{sym, subst, Answers}
use Rattle.msrp_plan.specs.declared.units.Call.TheVariants.{Poll}
use Rattle.msrp_plan.specs.declared.units.Phase.TheVariants.{Queued}
use Rattle.msrp_core.specs.Ports.{claim_in}
use Rattle.msrp_sim.specs.Served.{FifoModel, lock_after_calls}
use Rattle.msrp_sim.proofs.Serving.{known_by, told_answers, waits_at}
use Rattle.msrp_sim.proofs.fifo.FifoPortPort.poll.Goals as goal

pub serve-requires-clause-resource : goal.serve-requires-clause-resource
serve-requires-clause-resource c =
    let p = c.self.inside in
    let queued = subst (λ (m : FifoModel). claim_in c.args.core.0 m.calls ≡ Queued c.args.res) (sym c.self.view_is) c.requires.queued in
    let waits = waits_at (lock_after_calls p.calls.items) c.args.core.0 (claim_in c.args.core.0 p.calls.items) (c.self.invariant.serving.stances c.args.core.0) c.args.res queued in
    subst (λ (m : FifoModel). c.args.res.0 < m.resources) c.self.view_is (known_by p.calls.items c.args.core.0 c.args.res.0 p.resources c.self.invariant.known waits.0)

pub serve-requires-clause-answers : goal.serve-requires-clause-answers
serve-requires-clause-answers c =
    let p = c.self.inside in
    let queued = subst (λ (m : FifoModel). claim_in c.args.core.0 m.calls ≡ Queued c.args.res) (sym c.self.view_is) c.requires.queued in
    subst (λ (m : FifoModel). Answers (lock_after_calls m.calls c.args.res.0) c.args.core.0 (Poll c.grants-granted.result)) c.self.view_is
    (told_answers (lock_after_calls p.calls.items) (λ k. claim_in k p.calls.items) p.queues c.self.invariant.serving c.args.core.0 c.args.res (Poll c.grants-granted.result) queued c.grants-granted.ensures)
