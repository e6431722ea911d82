use Rattle.std.proofs.Common.{◌≡◌}
use Rattle.msrp_plan.proofs.Common.{sym, subst, Answers}
use Rattle.msrp_plan.specs.declared.units.Phase.TheVariants.{Free}
use Rattle.msrp_core.specs.Ports.{claim_in}
use Rattle.msrp_sim.specs.Served.{FifoModel, lock_after_calls}
use Rattle.msrp_sim.proofs.Serving.{asked_answers}
use Rattle.msrp_sim.proofs.fifo.FifoPortPort.ask.Goals as goal

pub serve-requires-clause-answers : goal.serve-requires-clause-answers
serve-requires-clause-answers c =
    let p = c.self.inside in
    let free = subst (λ (m : FifoModel). claim_in c.args.core.0 m.calls ≡ Free) (sym c.self.view_is) c.requires.free in
    let P : FifoModel → Type 0 = λ m. Answers (lock_after_calls m.calls c.args.res.0) c.args.core.0 c.request-call.result in
    subst P c.self.view_is (subst (Answers (lock_after_calls p.calls.items c.args.res.0) c.args.core.0) (sym c.request-call.ensures)
    (asked_answers (lock_after_calls p.calls.items) (λ k. claim_in k p.calls.items) p.queues c.self.invariant.serving c.args.core.0 c.args.res c.reply-reply.result free (c.reply-reply.ensures.told c.args.core.0)))
