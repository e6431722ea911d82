use Rattle.std.proofs.Common.{◌≡◌}
use Rattle.msrp_plan.proofs.Common.{subst, Answers}
use Rattle.msrp_plan.specs.declared.units.Call.TheVariants.{Poll}
use Rattle.msrp_plan.specs.declared.units.Phase.TheVariants.{Queued}
use Rattle.msrp_core.specs.Ports.{claim_in}
use Rattle.msrp_sim.specs.Served.{FifoModel, lock_after_calls}
use Rattle.msrp_sim.proofs.Serving.{told_answers}
use Rattle.msrp_sim.proofs.fifo.FifoPort.grants.Goals as goal

pub returns : goal.returns
returns c =
    let p = c.self.inside in
    let P : FifoModel → Type 0 = λ m. claim_in c.args.core.0 m.calls ≡ Queued c.args.res → Answers (lock_after_calls m.calls c.args.res.0) c.args.core.0 (Poll c.grants.result) in
    subst P c.self.view_is (λ queued. told_answers (lock_after_calls p.calls.items) (λ k. claim_in k p.calls.items) p.queues c.self.invariant.serving c.args.core.0 c.args.res (Poll c.grants.result) queued c.grants.ensures)
