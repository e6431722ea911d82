use Rattle.std.proofs.Common.{◌≡◌, ◌+◌, ◌<◌, ◌≤◌}
use Rattle.msrp_plan.proofs.Common.{ℕ, slice_index_or, vec_len, vec_items, vec_capacity, into_iter_items, into_iter_len}
use Rattle.msrp_run.proofs.Common.{AreNewParts, ArePromised, HasOthers}
use Rattle.msrp_run.proofs.threads.start_all.Given as goal

abbrev pub invariant-loop-parts : goal.invariant-loop-parts
invariant-loop-parts g l =
    let done = vec_len l.handles in
    let rest = l.parts-iterator in
    (done + into_iter_len rest ≡ vec_len l.fn.all_parts)
    × ((k : ℕ) (d : _) → k < into_iter_len rest → AreNewParts l.plan (done + k) (slice_index_or (into_iter_items rest) k d))
    × ArePromised l.board l.plan (vec_items l.handles) × (vec_len l.fn.all_parts ≤ vec_capacity l.handles) × HasOthers l.board done l.others
