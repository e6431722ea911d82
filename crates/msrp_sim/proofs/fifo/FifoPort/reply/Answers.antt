use Rattle.std.proofs.Common.{◌≡◌}
use Rattle.msrp_plan.proofs.Common.{ℕ, subst, Answers}
use Rattle.msrp_plan.specs.declared.units.Phase.TheVariants.{Free}
use Rattle.msrp_core.specs.Ports.{asked, claim_in}
use Rattle.msrp_sim.specs.Served.{FifoModel, lock_after_calls}
use Rattle.msrp_sim.proofs.Serving.{asked_answers}
use Rattle.msrp_sim.proofs.fifo.FifoPort.reply.Goals as goal

pub returns : goal.returns
returns c =
    let p = c.self.inside in
    let P : FifoModel → Type 0 = λ m. (d : ℕ) → claim_in d m.calls ≡ Free → Answers (lock_after_calls m.calls c.args.res.0) d (asked c.reply.result) in
    subst P c.self.view_is (λ d free. asked_answers (lock_after_calls p.calls.items) (λ k. claim_in k p.calls.items) p.queues c.self.invariant.serving d c.args.res c.reply.result free (c.reply.ensures.told d))
