use Rattle.msrp_plan.proofs.Common.{[], length, take, drop, sym, ap, subst, inl, inr, arith, append_assoc, cases_lt, IsPermutation, take_more, get_or-map, length_permutation}
use Rattle.std.proofs.Common.{◌≡◌, ◌+◌, ◌-◌, ◌∷◌, ◌++◌, ◌<◌, ◌∙◌, take_all}
use Rattle.msrp_ready.proofs.Common.{All-drop, All-take, Entry, IsPermutation-push_more, entry_key, entry_keys}
use Rattle.msrp_ready.proofs.Entries.{no_entry, keyed_length}
use Rattle.msrp_ready.proofs.Between.{between_slice}
use Rattle.msrp_ready.proofs.Walks.{few_of_most}
use Rattle.msrp_ready.proofs.calendar.release_some.Goals as goal

pub of-requires : goal.of-requires
of-requires c = record { plan = c.requires.plan; task = All-take (λ (e : Entry). e.task < length c.args.plan.now.tasks) (c.released_to-until.result - c.args.from) (drop c.args.from c.args.calendar.now) (All-drop (λ (e : Entry). e.task < length c.args.plan.now.tasks) c.args.from c.args.calendar.now c.requires.tasks) c.loop-entry.entry-index no_entry c.loop-entry-test.true }

pub loop-entry-preserved : goal.loop-entry-preserved
loop-entry-preserved c =
    let plan = c.args.plan.now in
    let entries = take (c.released_to-until.result - c.args.from) (drop c.args.from c.args.calendar.now) in
    let released = entry_keys plan entries in
    let at = c.loop-entry.entry-index in
    let before = c.loop-entry.invariant in
    let within = c.loop-entry-test.true in
    let job = c.of.result in
    let more = take_more released at job (omega (arith, within, keyed_length plan entries)) ∙ ap (λ k. take at released ++ k ∷ []) (get_or-map (entry_key plan) entries at no_entry job within ∙ sym c.of.ensures) in
    let size = length_permutation _ _ c.push.ensures.jobs in
    let few = few_of_most 1 2 (length c.loop-entry.heap.jobs + 1) c.loop-entry.heap.compared c.push.new.self.compared c.push.ensures.walk (omega arith) in
    record {
      jobs = subst (λ l. IsPermutation (c.args.heap.now.jobs ++ l) c.push.new.self.jobs) (sym more) (subst (λ l. IsPermutation l c.push.new.self.jobs) (append_assoc c.args.heap.now.jobs (take at released) (job ∷ [])) (IsPermutation-push_more (c.args.heap.now.jobs ++ take at released) c.loop-entry.heap.jobs c.push.new.self.jobs job before.jobs c.push.ensures.jobs));
      size = omega (arith, size, before.size);
      room = c.push.ensures.room ∙ before.room;
      compared = omega (arith, few, before.compared);
      counted = elim (cases_lt 0 at) [
        | inl later ↦ let risen = c.push.ensures.walk.some (omega (arith, before.size)) in omega (arith, risen, before.counted)
        | inr first ↦ omega (arith, c.push.ensures.walk.kept, before.kept)
      ];
      kept = omega (arith, before.kept, c.push.ensures.walk.kept);
    }

pub returns-clause-jobs : goal.returns-clause-jobs
returns-clause-jobs c =
    let plan = c.args.plan.now in
    let entries = take (c.released_to-until.result - c.args.from) (drop c.args.from c.args.calendar.now) in
    let all : take c.loop-entry.entry-index (entry_keys plan entries) ≡ entry_keys plan (drop c.args.from (take c.released_to-until.result c.args.calendar.now)) =
    take_all c.loop-entry.entry-index (entry_keys plan entries) (omega (arith, c.loop-entry-test.false, keyed_length plan entries)) ∙ ap (entry_keys plan) (between_slice c.args.from c.released_to-until.result c.args.calendar.now c.released_to-until.ensures.from) in
    subst (λ l. IsPermutation (c.args.heap.now.jobs ++ l) c.loop-entry.heap.jobs) all c.loop-entry.invariant.jobs
