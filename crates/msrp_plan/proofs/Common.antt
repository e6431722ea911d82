-- The words and lemmas that most proofs cite, passed on from one place. Declares nothing.
pub use Rattle.msrp_plan.proofs.Blocking.Heads.{job_on}
pub use Rattle.msrp_plan.proofs.Blocking.Sections.{greatest_push}
pub use Rattle.msrp_plan.proofs.Jobs.CoreJobs.{known_task, on_its_core}
pub use Rattle.msrp_plan.proofs.Jobs.JobLists.{core_jobs_below, jobs_among, jobs_of_are}
pub use Rattle.msrp_plan.proofs.Jobs.JobTests.{is_job_is, row_of_job, same_is, same_self, same_symm, some_is}
pub use Rattle.msrp_plan.proofs.Jobs.Keys.{before_order, tied}
pub use Rattle.msrp_plan.proofs.Legality.LegalRows.{DoesUnit, IsTurn, due, idle_res, legal_due, legal_turn, same_choice_is, same_res_is, turn_chosen, turn_core, turn_of}
pub use Rattle.msrp_plan.proofs.Legality.Locality.{AreOwn}
pub use Rattle.msrp_plan.proofs.Legality.SameRow.{same_row}
pub use Rattle.msrp_plan.proofs.Levels.Ceilings.{in_resources}
pub use Rattle.msrp_plan.proofs.Levels.GlobalUse.{undeclared_local}
pub use Rattle.msrp_plan.proofs.Lists.AnyAll.{all_both, all_push, all_weaker, any_in, any_push, none_kept, places_push}
pub use Rattle.msrp_plan.proofs.Lists.Filters.{all_of, any_map, filter_same, filter_within}
pub use Rattle.msrp_plan.proofs.Lists.Least.{all_filtered}
pub use Rattle.msrp_plan.proofs.Lists.LeastKept.{greatest_above, irrefl, least_in, least_of_those, least_passes, least_some}
pub use Rattle.msrp_plan.proofs.Lists.Members.{any_from, kept_by}
pub use Rattle.msrp_plan.proofs.Lists.Prefixes.{along, each_at, each_before, each_push}
pub use Rattle.msrp_plan.proofs.Lists.Ranges.{flat_more, not_equal, range_more}
pub use Rattle.msrp_plan.proofs.Queues.QueueLocks.{own_from_legal}
pub use Rattle.msrp_plan.proofs.Runs.RoundRobin.{log_other, log_own, quiet_reply}
pub use Rattle.msrp_plan.proofs.Runs.Verdicts.{early_is, fault_push, fault_stays, good_is_run, start_before, start_is_good, start_last, unbroken_is_legal}
pub use Rattle.msrp_plan.proofs.SameKinds.{same_kind_is}
pub use Rattle.msrp_plan.proofs.Scheduling.NextRow.{turns_when_due}
pub use Rattle.msrp_plan.proofs.TaskUnits.Nesting.{even_after, held_push, held_times}
pub use Rattle.msrp_plan.proofs.TaskUnits.PlanUnits.{units_lock}
pub use Rattle.msrp_plan.proofs.TaskUnits.UnitCounts.{held_unlock}
pub use Rattle.msrp_plan.proofs.TaskUnits.UnitKinds.{Grants, Locks, Releases, Runs, Spins, Takes, Unlocks, step_of}
pub use Rattle.msrp_plan.proofs.Writes.{wrote-more, wrote-nothing, some-more, some-nothing, wrote-some}
pub use Rattle.msrp_plan.specs.Actions.{allows, does_next, does_unit, is_global_unit, is_idle, res_of_unit, same_res}
pub use Rattle.msrp_plan.specs.Aheads.{carries_ahead, carries_its_ahead}
pub use Rattle.msrp_plan.specs.Blocking.{blocked, count_after, first_later}
pub use Rattle.msrp_plan.specs.Bounds.{longest_section, section, spin_bound, to_unlock, wait_bound}
pub use Rattle.msrp_plan.specs.Building.{IsJudged, is_within}
pub use Rattle.msrp_plan.specs.Bytes.{Wrote, WroteSome}
pub use Rattle.msrp_plan.specs.Calls.{IsDueCall, ResCall, ahead_of_call, claim_after, claim_with, kind_of_call}
pub use Rattle.msrp_plan.specs.Ceiling.{ceiling_with, raised_with, resources}
pub use Rattle.msrp_plan.specs.Choice.{choice, comes_first, first_ready, first_unfinished, is_before, least}
pub use Rattle.msrp_plan.specs.FifoLock.{Answers, FifoLock, IsAmong, IsFirst, Legal, free_lock, lock_after, without_first}
pub use Rattle.msrp_plan.specs.Jobs.{done, holds, is_finished, is_job, is_queued, is_released, is_row_of, is_started, is_waiting, job_at, jobs, jobs_of, jobs_on, same_job}
pub use Rattle.msrp_plan.specs.Levels.{greatest, is_global, level, level_of, local_ceiling, top, uses}
pub use Rattle.msrp_plan.specs.LockStates.{lock_at, lock_from}
pub use Rattle.msrp_plan.specs.Logs.{is_of, log_of}
pub use Rattle.msrp_plan.specs.Names.{is_name, is_name_byte, name_position}
pub use Rattle.msrp_plan.specs.Phases.{phase_after, phase_with}
pub use Rattle.msrp_plan.specs.Plan.{PlanModel, TaskModel, core_of, key, no_task, release, task_at, task_of, units}
pub use Rattle.msrp_plan.specs.Queues.{counts, fifo, is_behind, is_first, is_on, is_release, is_release_of, is_reply_of, is_request, replies, requester}
pub use Rattle.msrp_plan.specs.ReleaseTimes.{Every, Listed, ReleaseTimes, is_listed, listed_ticks}
pub use Rattle.msrp_plan.specs.Runs.{CoreRun, EachAfter, IsCoreTurn, IsLegal, IsRun, IsRunStart, had_turn, is_chosen, is_fifo_reply, is_in_turn, is_next_action, is_of_core, is_on_core, replies_on, same_choice}
pub use Rattle.msrp_plan.specs.Scheduling.{IsDueInOrder, IsOrder}
pub use Rattle.msrp_plan.specs.Shape.{has_shape, is_queue, may_carry}
pub use Rattle.msrp_plan.specs.States.{JobState, state_after, state_with}
pub use Rattle.msrp_plan.specs.Stretches.{in_tick}
pub use Rattle.msrp_plan.specs.Units.{held_after, held_with, holds_after, is_lock_of, is_unlock_of, locks, unlocks}
pub use Rattle.msrp_plan.specs.Verdict.{broken, fault_in, fault_or, missing, refused, verdict}
pub use Rattle.msrp_plan.specs.WellFormed.{AreNames, IsLocking, IsPlan}
pub use Rattle.std.proofs.Common.{Global, unwrap_or}
pub use Rattle.std.proofs.Math.Bool.{and-false, and-true, or-false, or-true, true≢false}
pub use Rattle.std.proofs.Math.ListN.{get_or-append}
pub use Rattle.std.proofs.Math.Nat.{div-add-mod, mod-eq_of_lt, mul-le-mul_left, mul-le-mul_right}
pub use Rattle.std.proofs.Math.Seq.{drop-cons, get_or-append_seam, take-append-add, take-append_seam, take-length, take-suc}
pub use Rattle.std.proofs.lemmas.Bool.{and_from, and_parts, cases_Bool, cases_eq, cases_lt, eqb-false, false_from_ne_true, le-leb, le-ltb, leb-false, leb-true, lt-leb, lt-ltb, ltb-false, ltb-true, not-true, or_from, or_parts, true_from_ne_false}
pub use Rattle.std.proofs.lemmas.Bool.Decides.{Decides-eqb, nat_tests}
pub use Rattle.std.proofs.lemmas.Fmt.{decimal_digit, decimal_nonempty}
pub use Rattle.std.proofs.lemmas.Grind.{common_steps, flat_map-append, get_or-set_at}
pub use Rattle.std.proofs.lemmas.List.{drop-append-le, drop-drop, drop-take, drop_all, drop_more, get_or-drop, get_or-map, get_or-replicate, get_or-set_other, get_or-set_same, get_or-take, get_or_append_left, get_or_at, get_or_default, get_or_past, get_or_push, get_or_read, length-map, length-replicate, length-set, length-take-le, length_push, map-append, nil_from_length, set-get_or, take-append-drop, take-append-le, take-map, take-take, take_all, take_at, take_more, take_rest}
pub use Rattle.std.proofs.lemmas.List.Elements.{All-contains, All-contains_itself, All-from_recursion, All-nil, All-push, All-weaker, Contains-append_cases, Contains-append_left, Contains-append_right, filter-append, filter_map-append, recursion_from_All}
pub use Rattle.std.proofs.lemmas.List.Folds.{list_all-append, list_any-append, list_any_at, list_any_more}
pub use Rattle.std.proofs.lemmas.List.FromFn.{get_or-map-range_with_len, length-map-range_with_len, length-range_with_len, map-range_with_len_more}
pub use Rattle.std.proofs.lemmas.List.Sorted.{All-permutation, Contains-permutation, IsPermutation-map, IsPermutation-refl, IsPermutation-sym, IsPermutation-trans, length_permutation}
pub use Rattle.std.proofs.lemmas.List.Sums.{count_by-le-length, fold-append, fold_push, length-filter, prefix_len-le-length, sum_by-append, sum_by-cons, sum_by-set, sum_by-take-le, sum_by_push}
pub use Rattle.std.proofs.lemmas.Nat.{div-add-mod', div-mul-add, div_below, mod-mul-add, mod_below, mul-le}
pub use Rattle.std.proofs.lemmas.Option.{get_or_from_slice_get, none-some, same_Some, slice_get-get_or, slice_get-map, slice_get_cases, slice_get_past, slice_get_read, slice_get_within}
pub use Rattle.std.proofs.lemmas.Result.{IfOk-weaker}
pub use Rattle.std.proofs.lemmas.Simd.{map-map}
pub use Rattle.std.proofs.lemmas.Slice.Eq.{starts_is}
pub use Rattle.std.specs.BinaryHeap.{IsUpperBound}
pub use Rattle.std.specs.Char.{is_ascii_digit, is_ascii_lowercase}
pub use Rattle.std.specs.Cmp.{IsStrictWeakOrder}
pub use Rattle.std.specs.Io.KnownBytes.{Consumes, Keeps, prepend_known}
pub use Rattle.std.specs.List.{All, AllByRecursion, Contains, cons_option, filter, filter_map, flat_map, insert, list_all, list_any, position_or_len, range_with_len, sum_by}
pub use Rattle.std.specs.List.Sorted.{IsNonDecreasingBy, IsPermutation}
pub use Rattle.std.specs.Option.{ForSome, IsSomeAnd, option_and_then, option_or, option_to_list}
pub use Rattle.std.specs.Ordering.{is_lt, nat_cmp, ordering_then}
pub use Rattle.std.specs.Prelude.{Bool, Err, IfErr, IfNone, IfOk, IfSome, IsSome, List, None, Ok, OnOk, Option, Result, Some, Vec, [], codes, cond, count_by, decimal, drop, eqb, false, fold, get_or, is_none, is_some, leb, length, ltb, map, max, min, nat_eq, nat_le, nat_lt, not, ok_or, option_map, replicate, reverse, set, slice_get, slice_index, slice_index_or, slice_set, suc, take, true, vec_capacity, vec_items, vec_len, zero, ℕ, ⊤}
pub use Rattle.std.specs.Str.{bytes_eq}
pub use Rattle.std.specs.Vec.{with_item}
pub use Rattle.std.specs.Vec.Iter.{into_iter_items, into_iter_len}
pub use Rattle.std.specs.declared.cmp.Ordering.TheVariants.{Equal, Greater, Less}
pub use borrow.Author.Rules.{rules}
pub use borrow.Author.Tests.{eq-eqb, eqb-true, ne_eqb}
pub use lib.ListN.{get_elem?, length-append, length-drop}
pub use mathlib.Core.List.{append-nil, append_assoc}
pub use mathlib.Core.Logic.{dite, inl, inr, ⊎_elim}
pub use mathlib.Core.Option.{none, some, some-injective, some-ne-none}
pub use mathlib.Core.Path.{ap, refl, subst, sym}
pub use native.Mathlib.Decide.{ℕ_discrete}
pub use native.Mathlib.Nat.{mul_comm}
pub use native.Mathlib.Numerals.{add-one}
pub use native.Mathlib.Omega.{arith}
