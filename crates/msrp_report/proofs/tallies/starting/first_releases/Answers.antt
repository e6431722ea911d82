use Rattle.std.proofs.Common.{◌≡◌, ◌+◌, ◌≤◌, ◌++◌, ◌∷◌, ◌∙◌}
use Rattle.msrp_plan.proofs.Common.{[], rules, length, length-append, map, ap, sym, subst, arith, All, range_with_len, map-append, All-push}
use Rattle.msrp_report.proofs.Common.{IsNonDecreasingBy-from_sort, NextRelease, answers_always, release_or_end}
use Rattle.msrp_report.proofs.LineJobs.{range_next}
use Rattle.msrp_report.proofs.Releases.{task_of, tick_of}
use Rattle.msrp_report.proofs.Starting.{releases_first}
use Rattle.msrp_report.proofs.tallies.starting.first_releases.Goals as goal

pub loop-task-preserved : goal.loop-task-preserved
loop-task-preserved c =
    let plan = c.args.plan.now in
    let i = c.loop-task.invariant in
    let n = c.loop-task.task in
    let items = c.push_reserved.ensures.items in
    let xs = c.loop-task.releases.items in
    let y : NextRelease = record { tick = c.release_or_end-tick.result; task = record { 0 = n } } in
    let own : NextRelease → Type 0 = λ r. r.tick ≡ release_or_end plan r.task.0 0 in
    record {
      size = ap length items ∙ (length-append xs (y ∷ []) ∙ ap (λ k. k + 1) i.size);
      room = subst (λ k. length plan.tasks ≤ k) (sym c.push_reserved.ensures.capacity) i.room;
      once = ap (map task_of) items ∙ (map-append task_of xs (y ∷ []) ∙ (ap (λ l. l ++ n ∷ []) i.once ∙ sym (range_next n)));
      own = subst (All own) (sym items) (All-push own xs y i.own c.release_or_end-tick.ensures);
    }

pub returns : goal.returns
returns c = λ tasks are.
    let plan = c.args.plan.now in
    let i = c.loop-task.invariant in
    let sorted = c.sort_unstable_by_key in
    let all : c.loop-task.task ≡ length plan.tasks = (let t = c.tasks-task-end.ensures.value in let past = c.loop-task-test.false in let end = c.loop-task.auto.task-end in omega (arith, t, past, end)) in
    releases_first plan c.loop-task.releases.items sorted.new.self.items tasks (i.once ∙ ap (range_with_len 0) all) i.own sorted.ensures.permutation
    (IsNonDecreasingBy-from_sort tick_of sorted.new.self.items (sorted.ensures.sorted tick_of (answers_always _ _ _ (λ f a r g h. search rules)))) are
