use Rattle.std.proofs.Common.{◌≡◌, ◌+◌, ◌<◌, ◌∙◌}
use Rattle.msrp_plan.proofs.Common.{rules, arith, subst, sym, ap, length, vec_len, vec_items, into_iter_len}
use Rattle.msrp_run.proofs.Common.{AllWorked, IsPromise, SeatModel, both}
use Rattle.msrp_run.proofs.Threading.{joined_more, rest_joined}
use Rattle.msrp_run.proofs.threads.join_all.Goals as goal

pub loop-handle-preserved : goal.loop-handle-preserved
loop-handle-preserved g c =
    let was = c.loop-handle.invariant in
    let step = c.in-Some.ensures.steps in
    let logs = vec_items c.loop-handle.logs in
    let log = c.join-log.result.0 in
    let seat = c.join-log.result.1 in
    let others = c.loop-handle.others in
    let first = was.1 0 c.in-Some.handle in
    let is : IsPromise c.args.board.now c.args._plan.now (length logs) c.in-Some.handle.promise = grind rules in
    let more = joined_more c.args.board.now c.args._plan.now logs log seat others c.in-Some.handle.promise was.2 is c.join-log.ensures in
    let some : 0 < into_iter_len c.loop-handle.handle-iterator = omega (arith, step.1) in
    let count = was.0 in
    let done : length logs ≡ vec_len c.loop-handle.logs = grind rules in (
      search rules,
      (λ k d low. let h = was.1 (k + 1) d in grind rules),
      subst (λ s. AllWorked c.args._plan.now (vec_items c.push_reserved.new.self) s) (sym c.join-others.ensures.both) (subst (λ l. AllWorked c.args._plan.now l (both seat others)) (sym c.push_reserved.ensures.items) more.0),
      search rules,
      rest_joined _ _ _ seat others c.join-others.result was.4 more.1 c.join-others.ensures.both (ap (λ (s : SeatModel). s.conductor) c.join-others.ensures.both ∙ more.2) (λ k from. more.3 k (omega (arith, from, some, count, done))),
    )
