use Rattle.std.proofs.Common.{◌≡◌, ◌∙◌}
use Rattle.msrp_plan.proofs.Common.{arith, refl, sym, subst, ap, length}
use Rattle.msrp_board.specs.Seats.{BoardModel}
use Rattle.msrp_board.specs.declared.books.BoardSize.{BoardSize}
use Rattle.msrp_run.specs.Work.{HasWorked}
use Rattle.msrp_hosted.specs.Hosted.{HostedCoreModel, HostedRunModel}
use Rattle.msrp_hosted.specs.Inside.{IsOpened, Keeps}
use Rattle.msrp_hosted.proofs.Hosting.{one_joined, turns_count}
use Rattle.msrp_hosted.proofs.run.HostedRun.take_back.Goals as goal

pub invariant_of-self : goal.invariant_of-self
invariant_of-self c =
    let i = c.self.invariant in
    let k = c.core.invariant in
    let board = c.self.inside.board.value in
    let plan = c.self.inside.plan.now in
    let logs = c.self.inside.logs.items in
    let m = c.core.inside.machine in
    let log = c.core.inside.log in
    let took = sym c.in-Some-Some.is-1 ∙ c.take.ensures.value ∙ i.has in
    let rest_is : i.rest ≡ c.in-Some-Some.rest = cc in
    let own = sym c.in-Some-Some.is-0 ∙ k.has in
    let seat_is : k.seat ≡ c.in-Some-Some.seat = cc in
    let step = ap (λ (x : HostedCoreModel). x.step) c.core.view_is ∙ c.requires.can.ended in
    let board_is = ap (λ (x : HostedCoreModel). x.board) c.core.view_is ∙ c.requires.run.board ∙ sym (ap (λ (r : HostedRunModel). r.board) c.self.view_is) in
    let plan_is = ap (λ (x : HostedCoreModel). x.plan) c.core.view_is ∙ c.requires.run.plan ∙ sym (ap (λ (r : HostedRunModel). r.plan) c.self.view_is) in
    let ended = subst (λ s. Keeps s c.core.inside.board.value m log k.seat) step k.keeps in
    let w : HasWorked board plan m.core log c.in-Some-Some.seat = subst (λ b. HasWorked b plan m.core log c.in-Some-Some.seat) board_is (subst (λ p. HasWorked c.core.inside.board.value p m.core log c.in-Some-Some.seat) plan_is (subst (λ s. HasWorked c.core.inside.board.value m.plan m.core log s) seat_is ended)) in
    let at : m.core ≡ length logs = ap (λ (x : HostedCoreModel). x.core) c.core.view_is ∙ c.requires.can.next ∙ sym (ap (λ (r : HostedRunModel). length r.joined) c.self.view_is) ∙ turns_count logs in
    let low = c.conductor-conductor.ensures.seat.cores m.core w.book w.of_core.book in
    let on = ap (λ (b : BoardModel). b.size.cores) w.on in
    let cores = ap (λ (z : BoardSize). z.cores) i.size in
    let all : c.self.inside.handed ≡ plan.cores = subst (λ (r : HostedRunModel). r.handed ≡ r.plan.cores) (sym c.self.view_is) c.requires.can.all in
    let opened_is = subst (λ s. IsOpened board plan s logs) rest_is (i.opened all) in
    let joined = one_joined board plan m.core c.in-Some-Some.rest c.in-Some-Some.seat c.join.result logs log opened_is w at (omega (arith, low, on, cores)) c.join.ensures.both in
    let room = i.room in
    let capacity = c.push_reserved.ensures.capacity in
    record {
      size = i.size;
      some = i.some;
      rest = c.join.result;
      has = refl;
      count = i.count;
      parts = i.parts;
      handing = λ more. absurd (omega (arith, more, all));
      opened = λ _. subst (λ ls. IsOpened board plan c.join.result ls) (sym c.push_reserved.ensures.items) joined;
      room = omega (arith, room, capacity);
    }
