use Rattle.msrp_plan.proofs.Common.{rules, arith, refl, sym, subst, ap, get_or, length, vec_len}
use Rattle.std.proofs.Common.{◌≡◌, ◌∙◌}
use Rattle.std.specs.Vec.Iter.{into_iter_items}
use Rattle.msrp_board.specs.Seats.{BoardModel}
use Rattle.msrp_merge.specs.Merging.{size_of}
use Rattle.msrp_run.specs.Threads.{AreNewParts, HasOthers}
use Rattle.msrp_hosted.proofs.Hosting.{first_others}
use Rattle.msrp_hosted.proofs.run.HostedRun.new.Goals as goal

pub invariant_of-result : goal.invariant_of-result
invariant_of-result c =
    let plan = c.tasks-accepted.ensures.plan in
    let size : c.in-Ok.board.size ≡ size_of c.args.plan.now = search rules in
    let others = first_others c.in-Ok.board c.in-Ok.rest c.in-Ok.ensures.seat in
    let some = plan.draft.cores.0 in
    let ticks = plan.draft.ticks.0 in
    let same = c.in-Ok-new.ensures.ok in
    let many : vec_len c.in_ok-parts.parts ≡ length c.in_ok-parts.parts.items = search rules in
    let count = c.in_ok-parts.ensures.count in
    let left = c.into_iter.ensures.len in
    record {
      size = ap (λ (b : BoardModel). b.size) same ∙ size;
      some = omega (arith, ticks);
      rest = c.in-Ok.rest;
      has = refl;
      count = omega (arith, left, count);
      parts = λ k d below. subst (λ n. AreNewParts c.args.plan.now n (get_or (into_iter_items c.into_iter.result) k d)) (omega arith) (subst (λ xs. AreNewParts c.args.plan.now k (get_or xs k d)) (sym c.into_iter.ensures.rest) (c.in_ok-parts.ensures.each k d (omega (arith, below, left, many))));
      handing = λ _. record { others = subst (λ b. HasOthers b 0 c.in-Ok.rest) (sym same) others; none = c.in_ok-logs.ensures.items };
      opened = λ e. absurd (omega (arith, some, e));
      room = search rules;
    }
