use Rattle.std.proofs.Common.{◌<◌, ◌∙◌}
use Rattle.msrp_plan.proofs.Common.{Some, List, length, subst, sym, ap, arith, All}
use Rattle.msrp_ready.proofs.Common.{Entry, IsComing, JobId, ReadyModel, entry_keys, released}
use Rattle.msrp_ready.proofs.Entries.{known_tasks}
use Rattle.msrp_ready.proofs.Moving.{sizes, releases}
use Rattle.msrp_ready.proofs.ready.Ready.release_to.Goals as goal

pub release-next-requires-clause-tasks : goal.release-next-requires-clause-tasks
release-next-requires-clause-tasks c =
    let r = c.self.inside in
    subst (All (λ (e : Entry). e.task < length r.plan.now.tasks)) (sym c.deref.ensures.value) (known_tasks r.plan.now r.calendar.items r.core.0 r.tick r.next r.heap c.self.invariant.0)

pub release-next-requires-clause-coming : goal.release-next-requires-clause-coming
release-next-requires-clause-coming c = let r = c.self.inside in subst (λ l. IsComing l r.next r.coming) (sym c.deref.ensures.value) c.self.invariant.1

pub release-next-requires-clause-jobs : goal.release-next-requires-clause-jobs
release-next-requires-clause-jobs c =
    let r = c.self.inside in
    let size = sizes r.plan.now r.core.0 r.tick (entry_keys r.plan.now r.calendar.items) r.next r.heap c.self.invariant.0 in
    omega (arith, size)

pub release-next-requires-clause-count : goal.release-next-requires-clause-count
release-next-requires-clause-count c =
    let r = c.self.inside in
    let ok = c.self.invariant.0 in
    let size = sizes r.plan.now r.core.0 r.tick (entry_keys r.plan.now r.calendar.items) r.next r.heap ok in
    omega (arith, ok.compared, ok.few, ok.within, size)

pub invariant_of-self : goal.invariant_of-self
invariant_of-self c =
    let r = c.self.inside in
    let told = c.release-next.ensures in
    let left = releases r.plan.now r.core.0 r.tick r.calendar.items c.deref.result.now r.next r.heap c.args.tick c.release-next.result.0 c.release-next.new.heap c.deref.ensures.value c.self.invariant.0 (λ before e. c.requires before (sym (ap (λ (v : ReadyModel). v.tick) c.self.view_is) ∙ e)) told.from told.within told.jobs told.released told.later told.room told.compared in
    (left.ready, subst (λ l. IsComing l c.release-next.result.0 c.release-next.result.1) c.deref.ensures.value told.coming)

pub returns-clause-tick : goal.returns-clause-tick
returns-clause-tick c =
    let r = c.self.inside in
    let told = c.release-next.ensures in
    let left = releases r.plan.now r.core.0 r.tick r.calendar.items c.deref.result.now r.next r.heap c.args.tick c.release-next.result.0 c.release-next.new.heap c.deref.ensures.value c.self.invariant.0 (λ before e. c.requires before (sym (ap (λ (v : ReadyModel). v.tick) c.self.view_is) ∙ e)) told.from told.within told.jobs told.released told.later told.room told.compared in
    let seen : List JobId → ReadyModel = λ taken. record { plan = r.plan.now; core = r.core.0; tick = Some c.args.tick; taken = taken; compared = c.release-next.new.heap.compared } in
    ap seen left.taken ∙ ap (λ (v : ReadyModel). let w : ReadyModel = record { plan = v.plan; core = v.core; tick = Some c.args.tick; taken = v.taken; compared = c.release-next.new.heap.compared } in w) c.self.view_is

pub returns-clause-at_most : goal.returns-clause-at_most
returns-clause-at_most c =
    let r = c.self.inside in
    let told = c.release-next.ensures in
    let left = releases r.plan.now r.core.0 r.tick r.calendar.items c.deref.result.now r.next r.heap c.args.tick c.release-next.result.0 c.release-next.new.heap c.deref.ensures.value c.self.invariant.0 (λ before e. c.requires before (sym (ap (λ (v : ReadyModel). v.tick) c.self.view_is) ∙ e)) told.from told.within told.jobs told.released told.later told.room told.compared in
    let before = sym (ap released c.self.view_is) ∙ left.before in
    let compared = ap (λ (v : ReadyModel). v.compared) c.self.view_is in
    omega (arith, told.compared, left.count, before, compared)

pub returns-clause-counted : goal.returns-clause-counted
returns-clause-counted c =
    let r = c.self.inside in
    let told = c.release-next.ensures in
    let left = releases r.plan.now r.core.0 r.tick r.calendar.items c.deref.result.now r.next r.heap c.args.tick c.release-next.result.0 c.release-next.new.heap c.deref.ensures.value c.self.invariant.0 (λ before e. c.requires before (sym (ap (λ (v : ReadyModel). v.tick) c.self.view_is) ∙ e)) told.from told.within told.jobs told.released told.later told.room told.compared in
    let before = sym (ap released c.self.view_is) ∙ left.before in
    let compared = ap (λ (v : ReadyModel). v.compared) c.self.view_is in
    omega (arith, told.counted, left.count, before, compared)
