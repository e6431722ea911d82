use Rattle.std.proofs.Common.{◌≡◌, ◌+◌, ◌<◌, ◌≤◌}
use Rattle.msrp_plan.proofs.Common.{ℕ, slice_index_or, vec_len, vec_items, vec_capacity, into_iter_items, into_iter_len}
use Rattle.msrp_run.proofs.Common.{AllWorked, HasRest, IsPromise, ordered}
use Rattle.msrp_run.proofs.threads.join_all.Given as goal

abbrev pub invariant-loop-handle : goal.invariant-loop-handle
invariant-loop-handle g l =
    let done = vec_len l.logs in
    let rest = l.handle-iterator in
    (done + into_iter_len rest ≡ vec_len l.fn.started.handles)
    × ((k : ℕ) (d : _) → k < into_iter_len rest → IsPromise l.board l._plan (done + k) (slice_index_or (into_iter_items rest) k d).promise)
    × AllWorked l._plan (vec_items l.logs) l.others × (vec_len l.fn.started.handles ≤ vec_capacity l.logs)
    × HasRest l.board (vec_len l.fn.started.handles) (ordered l.fn.started.all) l.others
