use Rattle.std.proofs.Common.{◌≡◌, ◌+◌, ◌<◌, ◌&&◌, ◌∷◌, ◌++◌, ◌∙◌}
use Rattle.msrp_plan.proofs.Common.{rules, List, [], Some, ap, cond, drop, is_queue, is_release, is_request, length, max, not, refl, subst, sym, true}
use Rattle.msrp_why.proofs.Common.{Numbered, is_change, is_entry, is_grant, is_in_tick, last_change, queue_rows}
use Rattle.msrp_why.proofs.Exercising.{few_before, most_with, one_more_counted}
use Rattle.msrp_why.proofs.Noting.{entry, last_on, queue_on, request_short}
use Rattle.msrp_why.proofs.notes.ResourceNotes.note.Goals as goal

pub returns : goal.returns
returns c = λ plan rows g ok start on number was.
    let e = c.args.row in
    let r = e.row in
    let kind = r.kind in
    let few = few_before plan rows r ok start in
    let fits : is_request kind ≡ true → length c.args.self.now.queue.items < 8 = λ request. subst (λ (q : List Numbered). length q < 8) (sym was.queue) (request_short plan rows r g ok start on request) in
    let same : e ≡ entry (length rows + 1) r = ap (λ k. entry k r) number in
    let queue = c.requeue.ensures fits ∙ (ap (λ q. cond (is_request kind) (q ++ e ∷ []) (cond (is_release kind) (drop 1 q) q)) was.queue
    ∙ (ap (λ n. cond (is_request kind) (queue_rows g rows ++ n ∷ []) (cond (is_release kind) (drop 1 (queue_rows g rows)) (queue_rows g rows))) same ∙ sym (queue_on plan rows r g ok start on))) in
    let long : c.len.result ≡ length c.requeue.new.queue.items = search rules in
    let n = was.counts in
    let step = c.note.ensures in
    record {
      queue = queue;
      last = c.last_after-self.ensures ∙ (ap (λ l. cond (is_change kind) (Some e) l) was.last ∙ (ap (λ m. cond (is_change kind) (Some m) (last_change g rows)) same ∙ sym (last_on g rows r kind on refl)));
      counts = record {
        free = one_more_counted _ rows r _ _ _ few (ap (λ b. b && is_entry kind) on) step.free n.free;
        joined = one_more_counted _ rows r _ _ _ few (ap (λ b. b && is_queue kind) on) step.joined n.joined;
        at_once = one_more_counted _ rows r _ _ _ few (ap (λ b. b && (is_grant kind && is_in_tick r.tick (last_change g rows))) on ∙ ap (λ l. is_grant kind && is_in_tick r.tick l) (sym was.last)) step.at_once n.at_once;
        later = one_more_counted _ rows r _ _ _ few (ap (λ b. b && (is_grant kind && not (is_in_tick r.tick (last_change g rows)))) on ∙ ap (λ l. is_grant kind && not (is_in_tick r.tick l)) (sym was.last)) step.later n.later;
        longest = most_with g rows r true _ _ on (step.longest ∙ ap (max c.args.self.now.counts.longest) (long ∙ ap length queue)) n.longest;
      };
    }
