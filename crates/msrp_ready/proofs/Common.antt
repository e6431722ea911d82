-- What most proofs of this crate cite, passed on from one place. Declares nothing.
pub use Rattle.msrp_plan.proofs.Jobs.JobLists.{job_at, jobs_among_more}
pub use Rattle.msrp_plan.proofs.Lists.Filters.{count_map}
pub use Rattle.msrp_plan.specs.Choice.{key_cmp}
pub use Rattle.msrp_plan.specs.declared.ids.JobId.{JobId}
pub use Rattle.msrp_plan.specs.declared.ids.JobKey.{JobKey}
pub use Rattle.msrp_ready.specs.Heap.{HeapModel, IsWalk, least_on_top}
pub use Rattle.msrp_ready.specs.Keyed.{earlier_of, entry, entry_key, entry_keys, job_of}
pub use Rattle.msrp_ready.specs.Ready.{ReadyModel, has_come, has_release_by, head, is_among, released}
pub use Rattle.msrp_ready.specs.ReadyView.{AreReady, IsComing, has, without}
pub use Rattle.msrp_ready.specs.declared.keyed.Entry.{Entry}
pub use Rattle.std.proofs.HeapSift.{Rising, Sinking, either_child, empty, greatest, only_child, popped, pushed, rise_begins, rise_rests, rise_steps, rise_tops, sink_begins, sink_ends, sink_rests, sink_steps}
pub use Rattle.std.proofs.lemmas.Bool.{and_right, eqb-true, not-false}
pub use Rattle.std.proofs.lemmas.List.{drop-map, length-drop}
pub use Rattle.std.proofs.lemmas.List.Elements.{All-append, All-drop, All-map, All-take, Contains-get_or, Contains-push, Contains-push_cases}
pub use Rattle.std.proofs.lemmas.List.Sorted.{IsNonDecreasingBy-from_sort, IsPermutation-append_comm, IsPermutation-append_left, IsPermutation-append_right, IsPermutation-cons, IsPermutation-middle, IsPermutation-push_more, IsPermutation-swap_remove, IsPermutation-to_front, answers_always, list_any-IsPermutation, sum_by-IsPermutation}
pub use Rattle.std.proofs.lemmas.List.Sums.{sum_by-le-sum_by, sum_by-take-drop}
unfoldable pub use Rattle.std.specs.BinaryHeap.{IsHeap}
pub use Rattle.std.specs.BinaryHeap.Sift.{ComparesAt, IsGreaterChild, SiftsUp}
unfoldable pub use Rattle.std.specs.BinaryHeap.Sift.{RestoresHeap, SiftsDown}
pub use Rattle.std.specs.List.{count_by, slice_get, swap_remove}
pub use Rattle.std.specs.Option.{IfSome, option_map}
