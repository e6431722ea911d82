use Rattle.std.proofs.Common.{◌≡◌, ◌+◌, ◌≤◌, ◌∷◌, ◌∙◌}
use Rattle.msrp_plan.proofs.Common.{[], ℕ, Some, length, length-append, slice_get, refl, ap, sym, subst, arith, places_push}
use Rattle.msrp_report.proofs.Common.{IsTaskTally, TaskTally}
use Rattle.msrp_report.proofs.Starting.{tallies_untold}
use Rattle.msrp_report.proofs.tallies.Tallies.with_room.Goals as goal

pub loop-task-preserved : goal.loop-task-preserved
loop-task-preserved c =
    let plan = c.args.plan.now in
    let i = c.loop-task.invariant in
    let items = c.push_reserved.ensures.items in
    let xs = c.loop-task.tasks.items in
    let y = c.in_ok-untold.field-0 in
    record {
      size = ap length items ∙ (length-append xs (y ∷ []) ∙ ap (λ n. n + 1) i.size);
      room = subst (λ n. length plan.tasks ≤ n) (sym c.push_reserved.ensures.capacity) i.room;
      each = subst (λ l. (k : ℕ) (x : TaskTally) → slice_get l k ≡ Some x → IsTaskTally plan [] 0 k x) (sym items) (places_push (λ k x. IsTaskTally plan [] 0 k x) xs y i.each (subst (λ n. IsTaskTally plan [] 0 n y) (sym i.size) c.in_ok-untold.ensures));
    }

pub returns : goal.returns
returns c =
    let i = c.loop-task.invariant in
    let all : c.loop-task.task ≡ length c.args.plan.now.tasks = (let t = c.tasks-task-end.ensures.value in let past = c.loop-task-test.false in let end = c.loop-task.auto.task-end in omega (arith, t, past, end)) in
    tallies_untold c.args.plan.now _ c.tasks-task-end.ensures.plan refl (i.size ∙ all) i.each (c.in_ok-first_releases.ensures _) c.in_ok-none_active.ensures
