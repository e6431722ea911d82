use Rattle.std.proofs.Common.{◌≡◌, ◌<◌, ◌+◌, ◌++◌, ◌∷◌}
use Rattle.msrp_plan.proofs.Common.{[], subst, sym, length, length-append, get_or, All-push, IsDueCall, Answers}
use Rattle.msrp_core.specs.Ports.{claim_in}
use Rattle.msrp_sim.specs.Served.{FifoModel, lock_after_calls}
use Rattle.msrp_sim.specs.Serving.{AreDrawn}
use Rattle.msrp_sim.proofs.Histories.{calls_move, fifo_push}
use Rattle.msrp_sim.proofs.Serving.{room_kept}
use Rattle.msrp_sim.proofs.fifo.FifoPort.serve.Goals as goal

pub invariant_of-self : goal.invariant_of-self
invariant_of-self c =
    let p = c.self.inside in
    let i = c.self.invariant in
    let e = c.args.call in
    let calls = p.calls.items in
    let turn = subst (λ (m : FifoModel). IsDueCall (claim_in e.core.0 m.calls) e.res e.call) (sym c.self.view_is) c.requires.turn in
    let answers = subst (λ (m : FifoModel). Answers (lock_after_calls m.calls e.res.0) e.core.0 e.call) (sym c.self.view_is) c.requires.answers in
    let known : e.res.0 < p.resources = subst (λ (m : FifoModel). e.res.0 < m.resources) (sym c.self.view_is) c.requires.resource in
    let left : 0 < get_or p.rooms e.core.0 0 = subst (λ (m : FifoModel). 0 < get_or m.rooms e.core.0 0) (sym c.self.view_is) c.requires.room in
    let more : length (calls ++ e ∷ []) ≡ length calls + 1 = length-append calls (e ∷ []) in
    record {
      fifo = rw c.write.ensures.calls (fifo_push calls e i.fifo answers);
      serving = rw c.write.ensures.calls (c.note.ensures.serving (lock_after_calls calls) (lock_after_calls (calls ++ e ∷ [])) (λ k. claim_in k calls) (λ k. claim_in k (calls ++ e ∷ [])) i.serving (calls_move calls e) answers turn);
      drawn = rw c.write.ensures.calls (subst (AreDrawn c.note.new.self) (sym more) (c.note.ensures.drawn (length calls) i.drawn));
      resources = i.resources;
      known = rw c.write.ensures.calls (All-push (λ x. x.res.0 < p.resources) calls e i.known known);
      room = rw (c.write.ensures.calls, c.write.ensures.rooms, c.write.ensures.room) (room_kept p.rooms e.core.0 _ calls e left i.room);
      size = rw c.write.ensures.room i.size;
    }
