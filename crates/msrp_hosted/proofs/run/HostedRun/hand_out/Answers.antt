use Rattle.std.proofs.Common.{◌≡◌, ◌<◌, ◌∙◌}
use Rattle.msrp_plan.proofs.Common.{arith, refl, sym, subst, ap}
use Rattle.std.specs.Vec.Iter.{into_iter_items, into_iter_len}
use Rattle.msrp_board.specs.declared.books.BoardSize.{BoardSize}
use Rattle.msrp_merge.specs.Turns.{LogModel}
use Rattle.msrp_plan.specs.Plan.{PlanModel}
use Rattle.msrp_run.specs.Work.{IsAtWork}
use Rattle.msrp_run.proofs.Threading.{has_next, next_seat, parts_are_new}
use Rattle.msrp_hosted.specs.Hosted.{HostedRunModel}
use Rattle.msrp_hosted.specs.Inside.{IsHandingOut}
use Rattle.msrp_hosted.proofs.Hosting.{all_out, core_as, first_parts, is_eq, is_ne, later_parts, new_at_work, still_handing}
use Rattle.msrp_hosted.proofs.run.HostedRun.hand_out.Goals as goal

pub split-seat-requires-clause-book : goal.split-seat-requires-clause-book
split-seat-requires-clause-book c =
    let i = c.self.invariant in
    let low : c.self.inside.handed < c.self.inside.plan.now.cores = subst (λ (r : HostedRunModel). r.handed < r.plan.cores) (sym c.self.view_is) c.requires.left in
    let took = sym c.in-Some-Some.is-1 ∙ c.take.ensures.value ∙ i.has in
    let same : i.rest ≡ c.in-Some-Some.rest = cc in
    let hand = subst (λ s. IsHandingOut c.self.inside.board.value c.self.inside.handed s c.self.inside.logs.items) same (i.handing low) in
    let step = c.in-Some-Some.ensures.cases in
    let parts = first_parts c.self.inside.plan.now c.self.inside.handed (into_iter_len c.self.inside.parts) (into_iter_items c.self.inside.parts) _ c.in-Some-Some.parts i.parts step.0 (omega (arith, step.1)) in
    let cores = ap (λ (z : BoardSize). z.cores) i.size in
    has_next c.self.inside.board.value c.self.inside.handed c.core.result.0 c.in-Some-Some.rest hand.others (c.core.ensures ∙ parts.core) (omega (arith, low, cores))

pub invariant_of-self : goal.invariant_of-self
invariant_of-self c =
    let i = c.self.invariant in
    let low : c.self.inside.handed < c.self.inside.plan.now.cores = subst (λ (r : HostedRunModel). r.handed < r.plan.cores) (sym c.self.view_is) c.requires.left in
    let took = sym c.in-Some-Some.is-1 ∙ c.take.ensures.value ∙ i.has in
    let same : i.rest ≡ c.in-Some-Some.rest = cc in
    let hand = subst (λ s. IsHandingOut c.self.inside.board.value c.self.inside.handed s c.self.inside.logs.items) same (i.handing low) in
    let step = c.in-Some-Some.ensures.cases in
    let parts = first_parts c.self.inside.plan.now c.self.inside.handed (into_iter_len c.self.inside.parts) (into_iter_items c.self.inside.parts) _ c.in-Some-Some.parts i.parts step.0 (omega (arith, step.1)) in
    let at = c.core.ensures ∙ parts.core in
    let count = i.count in
    let all = c.cores.ensures.value in
    record {
      size = i.size;
      some = i.some;
      rest = c.open_at_last.new.rest;
      has = refl;
      count = omega (arith, count, step.1);
      parts = λ k d below. later_parts c.self.inside.plan.now c.self.inside.handed (into_iter_len c.self.inside.parts) k (into_iter_items c.self.inside.parts) _ c.in-Some-Some.parts d i.parts step.0 (omega (arith, step.1, below));
      handing = λ more. still_handing c.self.inside.board.value c.self.inside.handed c.core.result.0 c.in-Some-Some.rest c.split-seat.result.1 c.open_at_last.new.rest c.self.inside.logs.items hand at c.split-seat.ensures.rest (c.open_at_last.ensures.same (is_ne _ _ (omega (arith, more, all))));
      opened = λ whole. all_out c.self.inside.board.value c.self.inside.plan.now c.self.inside.handed c.core.result.0 c.in-Some-Some.rest c.split-seat.result.1 c.open_at_last.new.rest c.self.inside.logs.items hand at c.split-seat.ensures.rest (c.open_at_last.ensures.opened (is_eq _ _ (whole ∙ sym all))) whole;
      room = i.room;
    }

pub invariant_of-result : goal.invariant_of-result
invariant_of-result c =
    let i = c.self.invariant in
    let low : c.self.inside.handed < c.self.inside.plan.now.cores = subst (λ (r : HostedRunModel). r.handed < r.plan.cores) (sym c.self.view_is) c.requires.left in
    let took = sym c.in-Some-Some.is-1 ∙ c.take.ensures.value ∙ i.has in
    let same : i.rest ≡ c.in-Some-Some.rest = cc in
    let hand = subst (λ s. IsHandingOut c.self.inside.board.value c.self.inside.handed s c.self.inside.logs.items) same (i.handing low) in
    let step = c.in-Some-Some.ensures.cases in
    let parts = first_parts c.self.inside.plan.now c.self.inside.handed (into_iter_len c.self.inside.parts) (into_iter_items c.self.inside.parts) _ c.in-Some-Some.parts i.parts step.0 (omega (arith, step.1)) in
    let cores = ap (λ (z : BoardSize). z.cores) i.size in
    let m = c.in-Some-Some.parts.machine in
    let own = next_seat c.self.inside.board.value c.self.inside.handed c.core.result.0 c.in-Some-Some.rest c.split-seat.result.0 hand.others (c.core.ensures ∙ parts.core) (omega (arith, low, cores)) c.split-seat.ensures.core in
    let new = parts_are_new c.self.inside.board.value c.self.inside.plan.now c.self.inside.handed c.in-Some-Some.parts c.split-seat.result.0 parts i.size own.1 own.0 in
    let work = new_at_work c.self.inside.board.value m c.in-Some-Some.parts.log c.split-seat.result.0 new (subst (λ (p : PlanModel). 0 < p.ticks) (sym parts.plan_is) i.some) in
    let board = ap (λ (r : HostedRunModel). r.board) c.self.view_is ∙ sym c.requires.board in
    record {
      seat = c.split-seat.result.0;
      has = refl;
      keeps = subst (λ b. IsAtWork b m.plan m.core m c.in-Some-Some.parts.log c.split-seat.result.0) board work;
    }

pub returns-clause-next : goal.returns-clause-next
returns-clause-next c =
    let i = c.self.invariant in
    let step = c.in-Some-Some.ensures.cases in
    let parts = first_parts c.self.inside.plan.now c.self.inside.handed (into_iter_len c.self.inside.parts) (into_iter_items c.self.inside.parts) _ c.in-Some-Some.parts i.parts step.0 (omega (arith, step.1)) in
    core_as _ _ _ _ _ _ _ _ _ (parts.plan_is ∙ ap (λ (r : HostedRunModel). r.plan) c.self.view_is) (parts.core ∙ ap (λ (r : HostedRunModel). r.handed) c.self.view_is) c.requires.board (ap (λ (l : LogModel). l.turns) parts.log)
