use Rattle.std.proofs.Common.{◌≡◌, ◌≤◌, ◌+◌, ◌∷◌, ◌∙◌}
use Rattle.msrp_plan.proofs.Common.{[], ℕ, Some, length, length-append, slice_get, ap, sym, subst, arith, places_push}
use Rattle.msrp_report.proofs.Common.{AreActiveOf, CoreJobs}
use Rattle.msrp_report.proofs.ActiveRows.{none_begun}
use Rattle.msrp_report.proofs.tallies.active.none_active.Goals as goal

pub loop-preserved : goal.loop-preserved
loop-preserved c =
    let plan = c.args.plan.now in
    let i = c.loop.invariant in
    let items = c.push_reserved.ensures.items in
    let xs = c.loop.active.items in
    let y : CoreJobs = record { jobs = c.in_ok-jobs.jobs } in
    let room = c.in_ok-jobs.ensures.capacity in
    let tasks = c.tasks.ensures.value in
    record {
      size = ap length items ∙ (length-append xs (y ∷ []) ∙ ap (λ n. n + 1) i.size);
      room = subst (λ n. plan.cores ≤ n) (sym c.push_reserved.ensures.capacity) i.room;
      each = subst (λ l. (k : ℕ) (x : CoreJobs) → slice_get l k ≡ Some x → AreActiveOf plan [] k x) (sym items) (places_push (λ k x. AreActiveOf plan [] k x) xs y i.each (none_begun plan (length xs) y c.in_ok-jobs.ensures.items (omega (arith, room, tasks))));
    }

pub returns : goal.returns
returns c =
    let i = c.loop.invariant in
    let all : c.loop.counter ≡ c.args.plan.now.cores = (let t = c.cores-end.ensures.value in let past = c.loop-test.false in let end = c.loop.auto.counter-end in omega (arith, t, past, end)) in
    record { size = i.size ∙ all; each = i.each }
