use Rattle.std.proofs.Common.{◌∷◌, ◌||◌, ◌∙◌}
use Rattle.msrp_plan.proofs.Common.{Some, length, refl, sym, ap, arith, IsPermutation-sym, Contains-permutation, same_job}
use Rattle.msrp_ready.proofs.Common.{ReadyModel, entry_keys, head, is_among, job_of}
use Rattle.msrp_ready.proofs.Standing.{head_none, head_some}
use Rattle.msrp_ready.proofs.Moving.{sizes, taken_on, taken_by_one}
use Rattle.msrp_ready.proofs.Walks.{few_of_most}
use Rattle.msrp_ready.proofs.ready.Ready.take_head.Goals as goal

pub pop-requires : goal.pop-requires
pop-requires c =
    let r = c.self.inside in
    let ok = c.self.invariant.0 in
    let size = sizes r.plan.now r.core.0 r.tick (entry_keys r.plan.now r.calendar.items) r.next r.heap ok in
    record { count = omega (arith, ok.compared, ok.room, ok.few, ok.within, size) }

pub returns-in_err-first-clause-head : goal.returns-in_err-first-clause-head
returns-in_err-first-clause-head c =
    let r = c.self.inside in
    c.from_residual.ensures ∙ sym (head_none r.plan.now r.core.0 (entry_keys r.plan.now r.calendar.items) r.next r.heap r.tick c.self.invariant.0 c.in_err-first.ensures.none) ∙ ap head c.self.view_is

pub invariant_of-self-2 : goal.invariant_of-self-2
invariant_of-self-2 c =
    let r = c.self.inside in
    let ok = c.self.invariant.0 in
    let told = c.in_ok-first.ensures in
    let size = sizes r.plan.now r.core.0 r.tick (entry_keys r.plan.now r.calendar.items) r.next r.heap ok in
    let few = few_of_most 2 3 (length r.heap.jobs) r.heap.compared c.pop.new.self.compared told.walk (omega (arith, size, ok.within, ok.few)) in
    (taken_on r.plan.now r.core.0 r.tick (entry_keys r.plan.now r.calendar.items) r.next r.heap ok c.in_ok-first.first c.pop.new.self told.jobs c.pop.ensures.room (omega (arith, few)), c.self.invariant.1)

pub returns-clause-head : goal.returns-clause-head
returns-clause-head c =
    let r = c.self.inside in
    let told = c.in_ok-first.ensures in
    let first = c.in_ok-first.first in
    let there = Contains-permutation (first ∷ c.pop.new.self.jobs) r.heap.jobs first (IsPermutation-sym r.heap.jobs (first ∷ c.pop.new.self.jobs) told.jobs) (0, omega arith, refl) in
    ap (λ j. Some j) c.job.ensures ∙ sym (head_some r.plan.now r.core.0 (entry_keys r.plan.now r.calendar.items) r.next r.heap r.tick c.self.invariant.0 first there told.first) ∙ ap head c.self.view_is

pub returns-clause-taken : goal.returns-clause-taken
returns-clause-taken c job =
    let r = c.self.inside in
    taken_by_one r.plan.now r.core.0 r.tick (entry_keys r.plan.now r.calendar.items) r.next r.heap c.self.invariant.0 c.in_ok-first.first c.pop.new.self c.in_ok-first.ensures.jobs job
    ∙ ap (λ (ready : ReadyModel). is_among ready.taken job || same_job (job_of c.in_ok-first.first) job) c.self.view_is
    ∙ ap (λ j. is_among c.args.self.now.taken job || same_job j job) (sym c.job.ensures)

pub returns-clause-at_most : goal.returns-clause-at_most
returns-clause-at_most c =
    let r = c.self.inside in
    let ok = c.self.invariant.0 in
    let told = c.in_ok-first.ensures in
    let size = sizes r.plan.now r.core.0 r.tick (entry_keys r.plan.now r.calendar.items) r.next r.heap ok in
    let few = few_of_most 2 3 (length r.heap.jobs) r.heap.compared c.pop.new.self.compared told.walk (omega (arith, size, ok.within, ok.few)) in
    rw (← c.self.view_is) few
